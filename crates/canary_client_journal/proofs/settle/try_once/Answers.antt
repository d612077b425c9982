use Rattle.std.proofs.Common.{◌∙◌, inl}
use Rattle.std.proofs.lemmas.Result.{IfOk-weaker, IfErr-weaker}
use Rattle.canary_client_journal.proofs.NetworkLemmas.{wider, late_more}
use Rattle.canary_client_journal.proofs.SettleLemmas.{sent_as, asks, heard_once, wrong_once}
use Rattle.canary_client_journal.proofs.settle.try_once.Goals as goal

pub returns-in-Ok-exchange-clause-came : goal.returns-in-Ok-exchange-clause-came
returns-in-Ok-exchange-clause-came g c =
    let told = g.N.Network.was_told in
    let j = c.args.journal.now in
    let a = sent_as j c.args.is_late c.caller.result c.in-Some.body.now c.in-Ok.message c.as_str.result.now c.number.result c.in-Some.ensures c.caller.ensures c.number.ensures c.in-Ok.ensures c.as_str.ensures in
    IfOk-weaker c.what_came.result _ _ (heard_once (told c.exchange.new.self) (g.N.Network.was_unanswered c.exchange.new.self) j a.0 c.args.is_late c.as_str.result.now c.in-Ok-exchange.response a.1 a.2
    (λ late. late_more (told c.args.network.now) (told c.exchange.new.self) c.exchange.ensures.network.told_still j a.0 (c.requires a.0 a.1 late))
    c.in-Ok-exchange.ensures.told) c.what_came.ensures.came

pub returns-in-Ok-exchange-clause-why : goal.returns-in-Ok-exchange-clause-why
returns-in-Ok-exchange-clause-why g c =
    let told = g.N.Network.was_told in
    let j = c.args.journal.now in
    let a = sent_as j c.args.is_late c.caller.result c.in-Some.body.now c.in-Ok.message c.as_str.result.now c.number.result c.in-Some.ensures c.caller.ensures c.number.ensures c.in-Ok.ensures c.as_str.ensures in
    let asked = asks (told c.exchange.new.self) (g.N.Network.was_unanswered c.exchange.new.self) j a.0 c.args.is_late c.as_str.result.now a.1 a.2
    (λ late. late_more (told c.args.network.now) (told c.exchange.new.self) c.exchange.ensures.network.told_still j a.0 (c.requires a.0 a.1 late)) in
    λ tries. IfErr-weaker c.what_came.result _ _ (wrong_once (told c.exchange.new.self) (g.N.Network.was_unanswered c.exchange.new.self) j c.as_str.result.now c.in-Ok-exchange.response asked c.in-Ok-exchange.ensures.told tries) c.what_came.ensures.wrong

pub returns-in-Ok-exchange-clause-network : goal.returns-in-Ok-exchange-clause-network
returns-in-Ok-exchange-clause-network g c =
    let told = g.N.Network.was_told in
    let j = c.args.journal.now in
    let a = sent_as j c.args.is_late c.caller.result c.in-Some.body.now c.in-Ok.message c.as_str.result.now c.number.result c.in-Some.ensures c.caller.ensures c.number.ensures c.in-Ok.ensures c.as_str.ensures in
    wider g.N.Network.was_sent told g.N.Network.was_unanswered c.args.network.now c.exchange.new.self _ _ c.exchange.ensures.network
    (λ m e. asks (told c.exchange.new.self) (g.N.Network.was_unanswered c.exchange.new.self) j a.0 c.args.is_late m a.1 (e ∙ a.2)
    (λ late. late_more (told c.args.network.now) (told c.exchange.new.self) c.exchange.ensures.network.told_still j a.0 (c.requires a.0 a.1 late)))

pub returns-clause-came : goal.returns-clause-came
returns-clause-came g c =
    let told = g.N.Network.was_told in
    let j = c.args.journal.now in
    let a = sent_as j c.args.is_late c.caller.result c.in-Some.body.now c.in-Ok.message c.as_str.result.now c.number.result c.in-Some.ensures c.caller.ensures c.number.ensures c.in-Ok.ensures c.as_str.ensures in (
      c.as_str.result.now,
      asks (told c.exchange.new.self) (g.N.Network.was_unanswered c.exchange.new.self) j a.0 c.args.is_late c.as_str.result.now a.1 a.2
          (λ late. late_more (told c.args.network.now) (told c.exchange.new.self) c.exchange.ensures.network.told_still j a.0 (c.requires a.0 a.1 late)),
      inl (c.in-Err.why, c.in-Err.ensures.unanswered),
    )

pub returns-clause-network : goal.returns-clause-network
returns-clause-network g c =
    let told = g.N.Network.was_told in
    let j = c.args.journal.now in
    let a = sent_as j c.args.is_late c.caller.result c.in-Some.body.now c.in-Ok.message c.as_str.result.now c.number.result c.in-Some.ensures c.caller.ensures c.number.ensures c.in-Ok.ensures c.as_str.ensures in
    wider g.N.Network.was_sent told g.N.Network.was_unanswered c.args.network.now c.exchange.new.self _ _ c.exchange.ensures.network
    (λ m e. asks (told c.exchange.new.self) (g.N.Network.was_unanswered c.exchange.new.self) j a.0 c.args.is_late m a.1 (e ∙ a.2)
    (λ late. late_more (told c.args.network.now) (told c.exchange.new.self) c.exchange.ensures.network.told_still j a.0 (c.requires a.0 a.1 late)))
