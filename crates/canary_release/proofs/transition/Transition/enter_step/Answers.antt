use Rattle.std.proofs.Common.{◌∙◌}
use Rattle.std.specs.Prelude.{slice_get}
use Rattle.std.proofs.lemmas.Result.{IfOk-weaker}
use Rattle.canary_release.specs.Rules.Entering.{show_step}
use Rattle.canary_release.proofs.transition.Transition.enter_step.Goals as goal

pub returns-clause-entered : goal.returns-clause-entered
returns-clause-entered c =
    IfOk-weaker c.show_step_of.result _ _
    (λ transition e. e ∙ (λ i. show_step (c.in_ok-opened.ensures.opened i) (slice_get (c.in_ok-strategy.ensures i).steps c.args.step) c.args.step c.args.at))
    c.show_step_of.ensures.shown
