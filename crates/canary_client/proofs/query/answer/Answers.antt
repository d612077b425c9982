use Rattle.std.proofs.Common.{◌∙◌}
use Rattle.canary_client.proofs.PromiseLemmas.{once_more, paused}
use Rattle.canary_client.proofs.query.answer.Goals as goal

pub returns-in_err-why_again-in-Ok : goal.returns-in_err-why_again-in-Ok
returns-in_err-why_again-in-Ok g c =
    once_more g.N.Network.was_sent g.N.Network.was_told g.N.Network.was_unanswered c.args.network.now c.loop-tried.network c.exchange.new.self _ _ (c.as_str.ensures ∙ c.in_ok-message.ensures) c.loop-tried.invariant c.exchange.ensures.network

pub returns-in-None : goal.returns-in-None
returns-in-None g c =
    once_more g.N.Network.was_sent g.N.Network.was_told g.N.Network.was_unanswered c.args.network.now c.loop-tried.network c.exchange.new.self _ _ (c.as_str.ensures ∙ c.in_ok-message.ensures) c.loop-tried.invariant c.exchange.ensures.network

pub returns-in-Err-Memory : goal.returns-in-Err-Memory
returns-in-Err-Memory g c =
    once_more g.N.Network.was_sent g.N.Network.was_told g.N.Network.was_unanswered c.args.network.now c.loop-tried.network c.exchange.new.self _ _ (c.as_str.ensures ∙ c.in_ok-message.ensures) c.loop-tried.invariant c.exchange.ensures.network

pub loop-tried-preserved : goal.loop-tried-preserved
loop-tried-preserved g c =
    paused g.N.Network.was_sent g.N.Network.was_told g.N.Network.was_unanswered c.args.network.now c.exchange.new.self c.rest.new.network _
    (once_more g.N.Network.was_sent g.N.Network.was_told g.N.Network.was_unanswered c.args.network.now c.loop-tried.network c.exchange.new.self _ _ (c.as_str.ensures ∙ c.in_ok-message.ensures) c.loop-tried.invariant c.exchange.ensures.network)
    c.rest.ensures
