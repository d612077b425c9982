use Rattle.std.proofs.Common.{ap, ◌∙◌}
use Rattle.canary_release.specs.Evolutions.{Evolution}
use Rattle.canary_release.specs.Parts.{is_broken}
use Rattle.canary_release.specs.Stored.{stored_after}
use Rattle.std.proofs.lemmas.Result.{IfOk-weaker}
use Rattle.canary_release.proofs.decide.new_service.Goals as goal

pub returns-clause-unbroken : goal.returns-clause-unbroken
returns-clause-unbroken c =
    IfOk-weaker c.new_transition.result _ _ (λ d e. ap (λ (x : Evolution). is_broken (stored_after x)) e ∙ c.parts.ensures.adding c.args.spec.now c.args.now) c.new_transition.ensures
