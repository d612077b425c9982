use Rattle.std.proofs.Common.{◌≡◌, take, map}
use Rattle.std.specs.FinMap.{get}
use Rattle.canary_metric.specs.Metrics.{MetricValue}
use Rattle.canary_plan.specs.Plans.{metrics_named}
use Rattle.canary_plan.proofs.analysis.labels_named.Given as goal

-- those of the names so far
abbrev pub invariant-loop-name : goal.invariant-loop-name
invariant-loop-name l = l.labels ≡ map (λ (m : MetricValue). m.name) (metrics_named (get l.known) (take l.name-index l.names))
