use Rattle.std.proofs.Common.{◌∙◌}
use Rattle.canary_release.proofs.Steps.{ends_as}
use Rattle.canary_release.proofs.service.Service.passed.Goals as goal

pub returns : goal.returns
returns c = (λ i. record { service = c.of.ensures i; effects = c.end-parts.result.1 }) ∙ ends_as c.in_ok-transition.transition _ _ c.end-parts.ensures c.in_ok-transition.ensures.passed
