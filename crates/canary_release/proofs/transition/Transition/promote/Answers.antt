use Rattle.std.proofs.Common.{◌∙◌}
use Rattle.std.proofs.lemmas.Result.{IfOk-weaker}
use Rattle.canary_plan.specs.declared.line.LineEvent.TheVariants.{Promoted}
use Rattle.canary_release.specs.Evolutions.{tell}
use Rattle.canary_release.specs.Rules.Entering.{enter}
use Rattle.canary_release.proofs.transition.Transition.promote.Goals as goal

pub returns-clause-promoted : goal.returns-clause-promoted
returns-clause-promoted c = IfOk-weaker c.enter.result _ _ (λ transition e. e ∙ (λ i. enter ((c.in_ok-told.ensures.told ∙ (λ j. tell (c.without_holds.ensures.cleared j) c.args.at Promoted)) i) (c.promoted_to-step.ensures i) c.args.at)) c.enter.ensures.entered
