use Rattle.std.proofs.Common.{◌≡◌, ◌++◌, take, map}
use Rattle.canary_metric.specs.Metrics.{MetricValue}
use Rattle.canary_plan.proofs.analysis.with_labels.Given as goal

-- those so far are added
abbrev pub invariant-loop-metric : goal.invariant-loop-metric
invariant-loop-metric l = l.labels ≡ l.initial.labels ++ map (λ (m : MetricValue). m.name) (take l.metric-index l.metrics)
