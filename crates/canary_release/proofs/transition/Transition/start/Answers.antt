use Rattle.std.proofs.Common.{◌∙◌}
use Rattle.std.proofs.lemmas.Result.{IfOk-weaker}
use Rattle.canary_plan.specs.declared.line.LineEvent.TheVariants.{Started}
use Rattle.canary_release.specs.Evolutions.{tell}
use Rattle.canary_release.specs.Rules.Entering.{enter}
use Rattle.canary_release.proofs.transition.Transition.start.Goals as goal

pub returns-clause-started : goal.returns-clause-started
returns-clause-started c = IfOk-weaker c.enter.result _ _ (λ transition e. e ∙ (λ i. enter ((c.in_ok-told.ensures.told ∙ (λ j. tell (c.begun.ensures.begun j) c.args.at (Started c.args.version))) i) (c.started_at-step.ensures i) c.args.at)) c.enter.ensures.entered
