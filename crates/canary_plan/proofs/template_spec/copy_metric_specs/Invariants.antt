use Rattle.std.proofs.Common.{◌≡◌, take}
use Rattle.canary_plan.proofs.template_spec.copy_metric_specs.Given as goal

-- those so far are copied
abbrev pub invariant-loop-metric : goal.invariant-loop-metric
invariant-loop-metric l = l.copies ≡ take l.metric-index l.metrics
