use Rattle.std.proofs.Common.{◌≡◌, ◌+◌, ◌∙◌, ℕ, Option, subst}
use Rattle.std.specs.Prelude.{IfSome}
use Rattle.canary_client_journal.specs.declared.meaning.Meaning.TheVariants.{Ahead}
use Rattle.canary_client_journal.specs.Meanings.{meaning_of}
use Rattle.canary_client.specs.Beginning.{probe_text}
use Rattle.canary_client.proofs.PromiseLemmas.{once_more, paused}
use Rattle.canary_client.proofs.journals.settled_before.Goals as goal

pub returns-in-Some-clause-said : goal.returns-in-Some-clause-said
returns-in-Some-clause-said g c =
    let told = g.N.Network.was_told c.exchange.new.self in
    let sent : c.as_str.result.now ≡ probe_text c.args.caller = c.as_str.ensures ∙ c.in_ok-message.ensures in
    let said : meaning_of c.in-Ok.response.status c.in-Ok.response.body ≡ Ahead (c.in-Some.settled + 1) =
    subst (λ (settled : Option ℕ). IfSome settled (λ count. meaning_of c.in-Ok.response.status c.in-Ok.response.body ≡ Ahead (count + 1))) c.in-Some.is c.in_ok-settled-in-Ok.ensures.said in
    (c.in-Ok.response, subst (λ m. told m c.in-Ok.response) sent c.in-Ok.ensures.told, said)

pub returns-in_err-settled-in-Ok-clause-sends : goal.returns-in_err-settled-in-Ok-clause-sends
returns-in_err-settled-in-Ok-clause-sends g c =
    once_more g.N.Network.was_sent g.N.Network.was_told g.N.Network.was_unanswered c.args.network.now c.loop-tried.network c.exchange.new.self _ _ (c.as_str.ensures ∙ c.in_ok-message.ensures) c.loop-tried.invariant c.exchange.ensures.network

pub returns-in-Some-clause-sends : goal.returns-in-Some-clause-sends
returns-in-Some-clause-sends g c =
    once_more g.N.Network.was_sent g.N.Network.was_told g.N.Network.was_unanswered c.args.network.now c.loop-tried.network c.exchange.new.self _ _ (c.as_str.ensures ∙ c.in_ok-message.ensures) c.loop-tried.invariant c.exchange.ensures.network

pub returns-in_err-why-in-None-clause-sends : goal.returns-in_err-why-in-None-clause-sends
returns-in_err-why-in-None-clause-sends g c =
    once_more g.N.Network.was_sent g.N.Network.was_told g.N.Network.was_unanswered c.args.network.now c.loop-tried.network c.exchange.new.self _ _ (c.as_str.ensures ∙ c.in_ok-message.ensures) c.loop-tried.invariant c.exchange.ensures.network

pub returns-in-Err-Memory-clause-sends : goal.returns-in-Err-Memory-clause-sends
returns-in-Err-Memory-clause-sends g c =
    once_more g.N.Network.was_sent g.N.Network.was_told g.N.Network.was_unanswered c.args.network.now c.loop-tried.network c.exchange.new.self _ _ (c.as_str.ensures ∙ c.in_ok-message.ensures) c.loop-tried.invariant c.exchange.ensures.network

pub loop-tried-preserved : goal.loop-tried-preserved
loop-tried-preserved g c =
    paused g.N.Network.was_sent g.N.Network.was_told g.N.Network.was_unanswered c.args.network.now c.exchange.new.self c.rest.new.network _
    (once_more g.N.Network.was_sent g.N.Network.was_told g.N.Network.was_unanswered c.args.network.now c.loop-tried.network c.exchange.new.self _ _ (c.as_str.ensures ∙ c.in_ok-message.ensures) c.loop-tried.invariant c.exchange.ensures.network)
    c.rest.ensures
