use Rattle.std.proofs.Common.{◌∙◌}
use Rattle.std.proofs.lemmas.Result.{IfOk-weaker}
use Rattle.sqlite.specs.Held.{state}
use Rattle.canary_once.specs.Records.{history_of}
use Rattle.canary_tables_schema.specs.Cells.{tables_in}
use Rattle.canary_tables_contents.specs.Values.{line_of_row}
use Rattle.canary_tables.specs.Desk.{IsDesk, contents_in}
use Rattle.canary_tables.proofs.Sought.{all_found}
use Rattle.canary_tables.proofs.pages.history.Goals as goal

pub returns-clause-found : goal.returns-clause-found
returns-clause-found g c usable =
    let old = state g.S.Store c.args.conn.now in
    let desk : IsDesk old = c.requires.ready.desk (c.in_ok-rows.ensures.reads.same usable).0 in
    IfOk-weaker c.lines_of.result _ _
    (λ lines told. all_found line_of_row c.as_slice.result.now _ lines (history_of (contents_in old) c.args.name.now) told (c.as_slice.ensures ∙ c.in_ok-rows.ensures.found usable (tables_in old.now) desk.stores) (c.histories_found.ensures (tables_in old.now) desk.holds c.args.name.now))
    c.lines_of.ensures.found
