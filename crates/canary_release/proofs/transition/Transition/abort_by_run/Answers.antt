use Rattle.std.proofs.Common.{◌∙◌}
use Rattle.std.proofs.lemmas.Result.{IfOk-weaker}
use Rattle.canary_release.specs.Rules.Entering.{abort}
use Rattle.canary_release.proofs.transition.Transition.abort_by_run.Goals as goal

pub returns-clause-aborted : goal.returns-clause-aborted
returns-clause-aborted c =
    IfOk-weaker c.abort.result _ _ (λ transition e. e ∙ (λ i. abort (c.in_ok-told.ensures.told i) c.args.at)) c.abort.ensures.aborted
