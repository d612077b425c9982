use Rattle.std.proofs.Common.{◌≡◌, ◌++◌, take}
use Rattle.canary_plan.proofs.analysis.with_metrics.Given as goal

-- those so far are added
abbrev pub invariant-loop-metric : goal.invariant-loop-metric
invariant-loop-metric l = l.metrics ≡ l.initial.metrics ++ take l.metric-index l.more
