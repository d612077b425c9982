use Rattle.std.proofs.Common.{◌∙◌}
use Rattle.std.proofs.lemmas.Result.{IfOk-weaker}
use Rattle.canary_release.specs.Evolutions.{end_open_runs}
use Rattle.canary_release.proofs.transition.Transition.hold_background.Goals as goal

pub returns-clause-held : goal.returns-clause-held
returns-clause-held c =
    IfOk-weaker c.end_open_runs.result _ _ (λ transition e. e ∙ (λ i. end_open_runs (c.in_ok-held.ensures.told i) c.args.at)) c.end_open_runs.ensures.ended
