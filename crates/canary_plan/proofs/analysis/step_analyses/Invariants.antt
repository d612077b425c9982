use Rattle.std.proofs.Common.{◌≡◌, take}
use Rattle.std.specs.List.{filter_map}
use Rattle.canary_plan.specs.PlanRefusals.{names_of_step}
use Rattle.canary_plan.proofs.analysis.step_analyses.Given as goal

-- those of the steps so far
abbrev pub invariant-loop-step : goal.invariant-loop-step
invariant-loop-step l = l.found ≡ filter_map names_of_step (take l.step-index l.steps)
