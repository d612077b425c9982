use Rattle.std.proofs.Common.{ℕ, ap, ◌∙◌}
use Rattle.std.proofs.lemmas.Result.{IfOk-weaker}
use Rattle.sqlite.specs.Held.{state}
use Rattle.canary_once.specs.Contents.{receipt_at}
use Rattle.canary_tables_schema.specs.Cells.{tables_in}
use Rattle.canary_tables_contents.specs.Values.{receipt_of_row}
use Rattle.canary_tables.specs.Desk.{IsDesk, contents_in}
use Rattle.canary_tables.proofs.Sought.{one_found}
use Rattle.canary_tables.proofs.load.receipt.Goals as goal

pub returns-clause-found : goal.returns-clause-found
returns-clause-found g c usable =
    let old = state g.S.Store c.args.conn.now in
    let desk : IsDesk old = c.requires.ready.desk (c.in_ok-row.ensures.reads.same usable).0 in
    IfOk-weaker c.receipt_of.result _ _
    (λ found told. one_found receipt_of_row c.in_ok-row.row _ found (receipt_at (contents_in old) c.args.caller.now c.get.result) told (c.in_ok-row.ensures.found usable (tables_in old.now) desk.stores) (c.receipts_found.ensures.receipts (tables_in old.now) desk.holds c.args.caller.now c.get.result c.get.ensures.limits.0) ∙ ap (λ (n : ℕ). receipt_at (contents_in old) c.args.caller.now n) c.get.ensures.value)
    c.receipt_of.ensures.found
