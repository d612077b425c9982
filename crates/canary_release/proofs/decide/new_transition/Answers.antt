use Rattle.canary_release.proofs.Steps.{new_told}
use Rattle.std.proofs.lemmas.Result.{IfOk-weaker}
use Rattle.canary_release.proofs.decide.new_transition.Goals as goal

pub returns : goal.returns
returns c =
    IfOk-weaker c.tell.result _ _ (λ d e. new_told c.watching.ensures c.args.spec.now c.args.now c.new_service_state.result c.new.result _ _ c.new_service_state.ensures c.new.ensures c.in_ok-of.ensures e) c.tell.ensures.told
