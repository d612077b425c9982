use Rattle.std.proofs.Common.{◌≡◌, take, map, true}
use Rattle.std.specs.List.{list_all}
use Rattle.std.specs.FinMap.{get}
use Rattle.canary_plan.specs.Plans.{bound_step, is_fit_if}
use Rattle.canary_plan.proofs.bound.bound_steps.Given as goal

-- those of the steps so far, each fit for runs
abbrev pub invariant-loop-step : goal.invariant-loop-step
invariant-loop-step l = record {
  bound : l.found ≡ map (bound_step (get l.known)) (take l.step-index l.steps);
  fit : list_all is_fit_if l.found ≡ true;
}
