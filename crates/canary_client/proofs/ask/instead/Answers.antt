use Rattle.std.proofs.Common.{length, refl, inl, false, subst, sym, ap}
use Rattle.canary_client.proofs.PromiseLemmas.{asked_instead, settles_at, of_instead}
use Rattle.canary_client.specs.Promises.{AsksFor}
use Rattle.canary_client.proofs.ask.instead.Goals as goal

pub returns-clause-settled : goal.returns-clause-settled
returns-clause-settled g c key =
    let asks : AsksFor c.args.asking c.in-Command.body =
    subst (λ what. AsksFor what c.in-Command.body) (sym c.in-Command.is) (inl refl) in
    settles_at (g.N.Network.was_told c.asked_instead.new.network) c.args.asking key c.args.kept.now.journal _ c.asked_instead.new.kept.journal false _ (ap length c.kept-place.ensures)
    (asked_instead c.args.asking key c.args.kept.now.journal c.in-Command.body asks) c.in_ok-asked_instead.ensures.settled

pub returns-clause-sends : goal.returns-clause-sends
returns-clause-sends g c key =
    let asks : AsksFor c.args.asking c.in-Command.body =
    subst (λ what. AsksFor what c.in-Command.body) (sym c.in-Command.is) (inl refl) in
    of_instead g.N.Network.was_sent g.N.Network.was_told g.N.Network.was_unanswered c.args.asking key c.args.kept.now.journal c.in-Command.body c.args.network.now c.asked_instead.new.network asks c.asked_instead.ensures.sends
