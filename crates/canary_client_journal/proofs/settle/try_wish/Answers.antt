use Rattle.std.proofs.Common.{false}
use Rattle.std.proofs.lemmas.Result.{IfOk-weaker}
use Rattle.canary_client_journal.proofs.NetworkLemmas.{reused_more}
use Rattle.canary_client_journal.proofs.SettleLemmas.{both_reused, too_late, wish_reused}
use Rattle.canary_client_journal.proofs.settle.try_wish.Goals as goal

pub returns-then-was_replaced-clause-came : goal.returns-then-was_replaced-clause-came
returns-then-was_replaced-clause-came g c =
    let told = g.N.Network.was_told in
    let j = c.args.journal.now in
    let first = reused_more (told c.args.network.now) (told c.try_once.new.network) c.try_once.ensures.network.told_still j false c.requires in
    IfOk-weaker c.try_once.result _ _ (both_reused (told c.try_once.new.network) (g.N.Network.was_unanswered c.try_once.new.network) j first) c.try_once.ensures.came

pub try_once-requires : goal.try_once-requires
try_once-requires g c =
    let told = g.N.Network.was_told in
    λ a pending late. too_late (told c.args.network.now) (g.N.Network.was_unanswered c.args.network.now) c.args.journal.now c.was_replaced.result c.was_replaced.ensures c.if-was_replaced.true c.requires a pending

pub returns-else-was_replaced-clause-came : goal.returns-else-was_replaced-clause-came
returns-else-was_replaced-clause-came g c =
    let told = g.N.Network.was_told in
    wish_reused (told c.args.network.now) (g.N.Network.was_unanswered c.args.network.now) c.args.journal.now c.was_replaced.result c.was_replaced.ensures c.if-was_replaced.false c.requires
