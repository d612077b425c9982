use Rattle.std.proofs.Common.{true, false, sym, ap, ◌∙◌}
use Rattle.std.proofs.lemmas.Result.{IfOk-weaker}
use Rattle.canary_client_journal.specs.Journals.{place_of}
use Rattle.canary_client.proofs.PromiseLemmas.{is_pending, is_settled, pending_instead, at_place, had_before, nothing_pending, of_before, of_new}
use Rattle.canary_client.specs.Promises.{intent_of}
use Rattle.canary_client.proofs.ask.settle_asked.Goals as goal

pub returns-then-branch-clause-settled : goal.returns-then-branch-clause-settled
returns-then-branch-clause-settled g c =
    IfOk-weaker c.resumed.result _ _ (λ at so. at_place (g.N.Network.was_told c.resumed.new.network) c.args.asking c.args.key c.args.kept.now.journal c.resumed.new.kept.journal false at
    (pending_instead c.args.asking c.args.key c.args.kept.now.journal.pending (c.in_ok-is_asked_instead.ensures c.if-branch.true)) so) c.resumed.ensures.settled

pub returns-then-branch-clause-sends : goal.returns-then-branch-clause-sends
returns-then-branch-clause-sends g c =
    of_before g.N.Network.was_sent g.N.Network.was_told g.N.Network.was_unanswered c.args.asking c.args.key c.args.kept.now.journal c.args.network.now c.resumed.new.network c.resumed.ensures.sends

pub returns-in-Settled-clause-settled : goal.returns-in-Settled-clause-settled
returns-in-Settled-clause-settled g c =
    had_before (g.N.Network.was_told c.args.network.now) c.args.asking c.args.key c.args.kept.now.journal c.in-Settled.place
    (is_settled c.args.asking c.args.kept.now.journal c.args.key c.in-Settled.place
    (ap (λ i. place_of c.args.kept.now.journal i c.args.key) (sym c.intent.ensures) ∙ sym c.place_of.ensures ∙ c.in-Settled.is))

pub returns-in-Pending-clause-settled : goal.returns-in-Pending-clause-settled
returns-in-Pending-clause-settled g c =
    IfOk-weaker c.resumed-in-Pending.result _ _ (λ at so. at_place (g.N.Network.was_told c.resumed-in-Pending.new.network) c.args.asking c.args.key c.args.kept.now.journal c.resumed-in-Pending.new.kept.journal true at
    (λ a is. is_pending c.args.asking c.args.kept.now.journal c.args.key a is
    (ap (λ i. place_of c.args.kept.now.journal i c.args.key) (sym c.intent.ensures) ∙ sym c.place_of.ensures ∙ c.in-Pending.is)) so) c.resumed-in-Pending.ensures.settled

pub returns-in-Pending-clause-sends : goal.returns-in-Pending-clause-sends
returns-in-Pending-clause-sends g c =
    of_before g.N.Network.was_sent g.N.Network.was_told g.N.Network.was_unanswered c.args.asking c.args.key c.args.kept.now.journal c.args.network.now c.resumed-in-Pending.new.network c.resumed-in-Pending.ensures.sends

pub returns-in-New-clause-sends : goal.returns-in-New-clause-sends
returns-in-New-clause-sends g c =
    of_new g.N.Network.was_sent g.N.Network.was_told g.N.Network.was_unanswered c.args.asking c.args.key c.args.kept.now.journal c.args.network.now c.ask_anew.new.network
    (nothing_pending c.args.kept.now.journal (intent_of c.args.asking) c.args.key
    (ap (λ i. place_of c.args.kept.now.journal i c.args.key) (sym c.intent.ensures) ∙ sym c.place_of.ensures ∙ c.in-New.is)) c.ask_anew.ensures.sends
