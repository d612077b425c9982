use Rattle.std.proofs.Common.{◌≡◌, false, take, map}
use Rattle.std.specs.List.{list_any}
use Rattle.canary_plan.specs.Plans.{bound_metric}
use Rattle.canary_plan.specs.PlanRefusals.{has_bad_condition}
use Rattle.canary_plan.proofs.template.bound_metrics.Given as goal

-- those so far are bound, and none has a bad condition
abbrev pub invariant-loop-spec : goal.invariant-loop-spec
invariant-loop-spec l = record {
  bound : l.metrics ≡ map (bound_metric l.dry_run) (take l.spec-index l.specs);
  read : list_any has_bad_condition (take l.spec-index l.specs) ≡ false;
}
