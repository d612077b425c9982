use Rattle.std.proofs.lemmas.Result.{err_from_is_err_and}
use Rattle.canary_client_journal.proofs.NetworkLemmas.{then_on, asked_more}
use Rattle.canary_client_journal.proofs.settle.try_each.Goals as goal

pub returns-in_err-tried-clause-why : goal.returns-in_err-tried-clause-why
returns-in_err-tried-clause-why g c = λ tries.
    let p = err_from_is_err_and c.from_residual.result c.from_residual.ensures.1 in
    rw (p.1, p.2) (c.in_err-tried.ensures.why tries)

pub returns-in-Reused-clause-network : goal.returns-in-Reused-clause-network
returns-in-Reused-clause-network g c =
    let told = g.N.Network.was_told in
    then_on g.N.Network.was_sent told g.N.Network.was_unanswered c.args.network.now c.try_once.new.network c.try_wish.new.network _ _ _ c.try_once.ensures.network c.try_wish.ensures.network
    (asked_more (told c.try_once.new.network) (told c.try_wish.new.network) c.try_wish.ensures.network.told_still c.args.journal.now) (λ m a. a)
