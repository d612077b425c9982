use Rattle.std.proofs.Common.{◌<◌, subst, arith}
use Rattle.std.proofs.lemmas.Result.{err_from_is_err_and}
use Rattle.canary_client_journal.specs.Sending.{IsFrom}
use Rattle.canary_client_journal.proofs.NetworkLemmas.{one_more, rested, unanswered_more}
use Rattle.canary_client_journal.proofs.settle.reply_to.Goals as goal

pub returns-in_err-reply-clause-why : goal.returns-in_err-reply-clause-why
returns-in_err-reply-clause-why g c =
    let p = err_from_is_err_and c.from_residual.result c.from_residual.ensures.1 in
    rw (p.1, p.2) (c.in_err-reply.ensures.why c.args.tries)

pub returns-in_err-reply-clause-network : goal.returns-in_err-reply-clause-network
returns-in_err-reply-clause-network g c =
    let some : 0 < c.args.tries = omega (arith, c.loop-tried-test.true) in
    one_more g.N.Network.was_sent g.N.Network.was_told g.N.Network.was_unanswered c.args.tries c.args.journal.now c.args.network.now c.loop-tried.network c.try_each.new.network some c.loop-tried.invariant.network c.try_each.ensures.network

pub returns-in-Settled-clause-network : goal.returns-in-Settled-clause-network
returns-in-Settled-clause-network g c =
    let some : 0 < c.args.tries = omega (arith, c.loop-tried-test.true) in
    one_more g.N.Network.was_sent g.N.Network.was_told g.N.Network.was_unanswered c.args.tries c.args.journal.now c.args.network.now c.loop-tried.network c.try_each.new.network some c.loop-tried.invariant.network c.try_each.ensures.network

pub returns-in-Reused-clause-network : goal.returns-in-Reused-clause-network
returns-in-Reused-clause-network g c =
    let some : 0 < c.args.tries = omega (arith, c.loop-tried-test.true) in
    one_more g.N.Network.was_sent g.N.Network.was_told g.N.Network.was_unanswered c.args.tries c.args.journal.now c.args.network.now c.loop-tried.network c.try_each.new.network some c.loop-tried.invariant.network c.try_each.ensures.network

pub loop-tried-preserved : goal.loop-tried-preserved
loop-tried-preserved g c =
    let told = g.N.Network.was_told in
    let unanswered = g.N.Network.was_unanswered in
    let j = c.args.journal.now in
    let mid = c.try_each.new.network in
    let some : 0 < c.args.tries = omega (arith, c.loop-tried-test.true) in
    let tried = one_more g.N.Network.was_sent told unanswered c.args.tries j c.args.network.now c.loop-tried.network mid some c.loop-tried.invariant.network c.try_each.ensures.network in
    record {
      network = rested g.N.Network.was_sent told unanswered c.args.tries j c.args.network.now mid c.rest.new.network tried c.rest.ensures;
      last = λ _. unanswered_more (told mid) (told c.rest.new.network) c.rest.ensures.told_still (unanswered mid) (unanswered c.rest.new.network) j c.rest.ensures.unanswered_still (subst (λ t. IsFrom (told mid) (unanswered mid) j t) c.in-Again.is c.in_ok-reply.ensures.came);
    }
