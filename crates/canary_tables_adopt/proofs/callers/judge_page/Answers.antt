use Rattle.std.proofs.Common.{◌≡◌, Err, subst, sym, rules}
use Rattle.canary_tables_read.specs.declared.fault.ReadFault.TheVariants.{Broken}
use Rattle.canary_tables_adopt.specs.Receipts.{AreReceipts, AreReceived}
use Rattle.canary_tables_adopt.proofs.ReceiptLemmas.{page_received, received_page, on_ok}
use Rattle.canary_tables_adopt.proofs.callers.judge_page.Goals as goal

pub returns-in_err-rows-clause-refused : goal.returns-in_err-rows-clause-refused
returns-in_err-rows-clause-refused g c usable t has is judged =
    let broken : c.kept.result ≡ Err Broken = search rules in
    c.kept.ensures.broken usable t has broken judged.0.kept

pub returns-clause-judged : goal.returns-clause-judged
returns-clause-judged g c usable t has =
    on_ok (AreReceipts c.args.before c.args.last c.as_slice.result.now) (AreReceived c.args.caller.now c.args.before c.args.last t) c.are_receipts.result
    (λ are. page_received c.args.caller.now c.args.before c.args.last t c.in_ok-rows.rows (c.in_ok-rows.ensures.found usable t has) (subst (AreReceipts c.args.before c.args.last) c.as_slice.ensures are)) c.are_receipts.ensures.judged

pub returns-clause-refused : goal.returns-clause-refused
returns-clause-refused g c usable t has is judged =
    c.are_receipts.ensures.refused is
    (subst (AreReceipts c.args.before c.args.last) (sym c.as_slice.ensures) (received_page c.args.caller.now c.args.before c.args.last t c.in_ok-rows.rows c.requires.some (c.in_ok-rows.ensures.found usable t has) judged.1))
