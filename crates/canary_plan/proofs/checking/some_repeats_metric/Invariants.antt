use Rattle.std.proofs.Common.{◌≡◌, drop}
use Rattle.std.specs.List.{list_any}
use Rattle.std.specs.FinMap.{get}
use Rattle.canary_plan.specs.PlanRefusals.{repeats_metric}
use Rattle.canary_plan.proofs.checking.some_repeats_metric.Given as goal

-- what is left says what the whole says
abbrev pub invariant-loop-names : goal.invariant-loop-names
invariant-loop-names l = list_any (repeats_metric (get l.known)) (drop l.names-index l.analyses) ≡ list_any (repeats_metric (get l.known)) l.analyses
