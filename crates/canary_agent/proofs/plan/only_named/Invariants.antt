use Rattle.std.proofs.Common.{Contains, IfSome}
use Rattle.canary_agent.specs.Plans.{IsOf}
use Rattle.canary_agent.proofs.plan.only_named.Given as goal

abbrev pub invariant-loop-metric : goal.invariant-loop-metric
invariant-loop-metric l =
    IfSome l.found (λ metric. Contains l.metrics metric.now × IsOf metric.now l.label)
