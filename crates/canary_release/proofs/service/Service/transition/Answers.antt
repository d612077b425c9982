use Rattle.std.proofs.Common.{ap, ◌∙◌}
use Rattle.std.proofs.lemmas.Result.{IfOk-weaker}
use Rattle.canary_release.specs.Evolutions.{Evolution}
use Rattle.canary_release.specs.Parts.{is_broken}
use Rattle.canary_release.specs.Stored.{stored_after}
use Rattle.canary_release.proofs.service.Service.transition.Goals as goal

pub returns-clause-unbroken : goal.returns-clause-unbroken
returns-clause-unbroken c =
    IfOk-weaker c.of.result _ _ (λ transition e. ap (λ (x : Evolution). is_broken (stored_after x)) e ∙ c.self.invariant) c.of.ensures
