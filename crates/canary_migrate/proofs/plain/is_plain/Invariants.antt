use Rattle.std.proofs.Common.{◌≡◌, drop}
use Rattle.std.specs.Prelude.{is_none}
use Rattle.std.specs.List.{list_all}
use Rattle.canary_plan.specs.declared.template_spec.MetricSpec.{MetricSpec}
use Rattle.canary_migrate.proofs.plain.is_plain.Given as goal

abbrev pub invariant-loop-metric : goal.invariant-loop-metric
invariant-loop-metric l = list_all (λ (m : MetricSpec). is_none m.pass_after) (drop l.metric-index l.metric-items) ≡ list_all (λ (m : MetricSpec). is_none m.pass_after) l.spec.metrics
