use Rattle.std.proofs.Common.{ap, ◌∙◌}
use Rattle.std.proofs.lemmas.Result.{IfOk-weaker}
use Rattle.canary_release.specs.Evolutions.{Evolution}
use Rattle.canary_release.specs.Rules.Passing.{pass}
use Rattle.canary_release.specs.Parts.{is_broken}
use Rattle.canary_release.specs.Stored.{stored_after}
use Rattle.canary_release.proofs.service.Service.passed_transition.Goals as goal

pub returns-clause-unbroken : goal.returns-clause-unbroken
returns-clause-unbroken c =
    IfOk-weaker c.pass.result _ _
    (λ transition e. ap (λ (x : Evolution). is_broken (stored_after x)) (e ∙ ap (λ (x : Evolution). pass x c.args.now) c.in_ok-transition.ensures.unchanged) ∙ c.parts.ensures.passing c.args.self.now c.args.now c.recall_checked_strategy.ensures.accepted c.recall_checked_strategy.ensures.fit c.recall_checked_strategy.ensures.unbroken)
    c.pass.ensures
