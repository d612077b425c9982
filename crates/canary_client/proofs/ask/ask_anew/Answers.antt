use Rattle.std.proofs.Common.{length, true, ap}
use Rattle.canary_client.proofs.PromiseLemmas.{asked_now, settles_at, of_wish}
use Rattle.canary_client.proofs.ask.ask_anew.Goals as goal

pub returns-in_err-asked-clause-sends : goal.returns-in_err-asked-clause-sends
returns-in_err-asked-clause-sends g c =
    of_wish g.N.Network.was_sent g.N.Network.was_told g.N.Network.was_unanswered c.args.asking c.args.key c.args.kept.now.journal c.in_ok-wish.wish c.args.network.now c.wish_of.new.network c.asked.new.network c.in_ok-wish.ensures.wish c.wish_of.ensures.sends c.asked.ensures.sends

pub returns-clause-settled : goal.returns-clause-settled
returns-clause-settled g c before =
    settles_at (g.N.Network.was_told c.asked.new.network) c.args.asking c.args.key before _ c.asked.new.kept.journal true _ (ap length c.kept-place.ensures)
    (asked_now c.args.asking c.args.key c.args.kept.now.journal c.in_ok-wish.wish c.in_ok-wish.ensures.wish.means c.in_ok-wish.ensures.wish.under) c.in_ok-asked.ensures.settled

pub returns-clause-sends : goal.returns-clause-sends
returns-clause-sends g c =
    of_wish g.N.Network.was_sent g.N.Network.was_told g.N.Network.was_unanswered c.args.asking c.args.key c.args.kept.now.journal c.in_ok-wish.wish c.args.network.now c.wish_of.new.network c.asked.new.network c.in_ok-wish.ensures.wish c.wish_of.ensures.sends c.asked.ensures.sends
