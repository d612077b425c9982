use Rattle.std.proofs.Common.{◌≡◌, Some, sym, ap, subst, ◌∙◌}
use Rattle.std.proofs.lemmas.Result.{IfOk-weaker}
use Rattle.std.specs.Prelude.{option_copied, IfSome}
use Rattle.sqlite.specs.Held.{state}
use Rattle.canary_once.specs.Contents.{receipt_at}
use Rattle.canary_tables.specs.Desk.{contents_in}
use Rattle.canary_tables.proofs.KeptLemmas.{receipt_kept}
use Rattle.canary_tables.proofs.Standing.{contents_stay, kept_stays}
use Rattle.canary_tables.proofs.cached.receipt.Goals as goal

pub returns-clause-kept : goal.returns-clause-kept
returns-clause-kept g c = λ usable.
    let old = state g.S.Store c.args.conn.now in
    let new = state g.S.Store c.receipt.new.conn in
    receipt_kept (contents_in new) c.args.kept.now c.keep_receipt.new.self c.args.caller.now c.args.number c.in_ok-found.found
    (kept_stays old new c.args.kept.now c.requires.kept c.receipt.ensures.reads.same usable)
    (c.in_ok-found.ensures.found usable ∙ ap (λ k. receipt_at k c.args.caller.now c.args.number) (sym (contents_stay old new c.receipt.ensures.reads.same usable)))
    c.keep_receipt.ensures.counts c.keep_receipt.ensures.services c.keep_receipt.ensures.templates c.keep_receipt.ensures.histories
    (λ k are is. c.keep_receipt.ensures.receipts k are (c.as_ref.ensures.value ∙ is))

pub returns-in-Some-clause-found : goal.returns-in-Some-clause-found
returns-in-Some-clause-found g c = λ usable.
    let kept = subst (λ o. IfSome (option_copied o) (λ r. receipt_at (contents_in (state g.S.Store c.args.conn.now)) c.args.caller.now c.args.number ≡ Some r)) c.in-Some.is
    (c.receipt_of.ensures (contents_in (state g.S.Store c.args.conn.now)) (c.requires.kept usable).receipts) in
    IfOk-weaker c.copied.result _ _ (λ copy e. e ∙ sym kept) c.copied.ensures.copy
