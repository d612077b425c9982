use Rattle.std.proofs.Common.{◌≡◌, take, map}
use Rattle.canary_plan.specs.declared.template_spec.MetricSpec.{MetricSpec}
use Rattle.canary_plan.proofs.template.repeats_name.Given as goal

-- the names so far
abbrev pub invariant-loop-metric : goal.invariant-loop-metric
invariant-loop-metric l = l.names.items ≡ map (λ (m : MetricSpec). m.name) (take l.metric-index l.metrics)
