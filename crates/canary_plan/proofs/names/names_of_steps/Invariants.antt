use Rattle.std.proofs.Common.{◌≡◌, ◌++◌, drop}
use Rattle.std.specs.Prelude.{filter_map}
use Rattle.canary_plan.specs.PlanRefusals.{names_of_step}
use Rattle.canary_plan.specs.Commands.{all_names}
use Rattle.canary_plan.proofs.names.names_of_steps.Given as goal

-- the names so far, with those that are left, are all
abbrev pub invariant-loop-step : goal.invariant-loop-step
invariant-loop-step l = l.names.items ++ all_names (filter_map names_of_step (drop l.step-index l.steps)) ≡ all_names (filter_map names_of_step l.steps)
