use Rattle.std.proofs.Common.{◌∙◌}
use Rattle.std.specs.FinMap.{get}
use Rattle.std.proofs.lemmas.Result.{IfOk-weaker}
use Rattle.canary_plan.specs.declared.line.LineEvent.TheVariants.{Retried}
use Rattle.canary_release.specs.Evolutions.{tell}
use Rattle.canary_release.specs.Rules.Commands.{begun}
use Rattle.canary_release.specs.Stored.{evolution_of}
use Rattle.canary_release.specs.Rules.Entering.{enter}
use Rattle.canary_release.proofs.transition.Transition.retry.Goals as goal

pub returns-clause-retried : goal.returns-clause-retried
returns-clause-retried c = IfOk-weaker c.enter.result _ _ (λ transition e. e ∙ (λ i. enter ((c.in_ok-told.ensures.told ∙ (λ j. tell (c.begun.ensures.begun j) c.args.at (Retried c.version-version.result)) ∙ (λ j. tell (begun (get c.args.templates.now) (evolution_of c.args.self) (c.version-version.ensures j)) c.args.at (Retried (c.version-version.ensures j)))) i) 0 c.args.at)) c.enter.ensures.entered
