use Rattle.std.proofs.Common.{◌≡◌, take}
use Rattle.canary_plan.proofs.template.copy_metrics.Given as goal

-- those so far are copied
abbrev pub invariant-loop-metric : goal.invariant-loop-metric
invariant-loop-metric l = l.copies ≡ take l.metric-index l.metrics
