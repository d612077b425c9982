use Rattle.std.proofs.Common.{◌≡◌, take}
use Rattle.std.specs.FinMap.{get}
use Rattle.canary_plan.specs.Plans.{metrics_named}
use Rattle.canary_plan.proofs.analysis.metrics_named.Given as goal

-- those of the names so far
abbrev pub invariant-loop-name : goal.invariant-loop-name
invariant-loop-name l = l.metrics ≡ metrics_named (get l.known) (take l.name-index l.names)
