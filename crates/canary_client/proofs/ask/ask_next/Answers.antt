use Rattle.canary_client.proofs.PromiseLemmas.{of_before, of_both, of_after}
use Rattle.canary_client.proofs.ask.ask_next.Goals as goal

pub returns-clause-sends : goal.returns-clause-sends
returns-clause-sends g c =
    of_both g.N.Network.was_sent g.N.Network.was_told g.N.Network.was_unanswered c.args.asking c.args.key c.args.kept.now.journal c.args.network.now c.settled.new.network c.ask_anew.new.network
    (of_before g.N.Network.was_sent g.N.Network.was_told g.N.Network.was_unanswered c.args.asking c.args.key c.args.kept.now.journal c.args.network.now c.settled.new.network c.settled.ensures.sends)
    (of_after g.N.Network.was_sent g.N.Network.was_told g.N.Network.was_unanswered c.args.asking c.args.key c.args.kept.now.journal c.settled.new.kept.journal c.settled.new.network c.ask_anew.new.network c.in_ok-settled.ensures.settled c.ask_anew.ensures.sends)
