use Rattle.std.proofs.Common.{◌∙◌, map, ap, sym, subst}
use Rattle.sqlite.specs.Held.{state}
use Rattle.canary_once.specs.Records.{measurements_of}
use Rattle.canary_tables_schema.specs.Cells.{tables_in}
use Rattle.canary_tables_read.specs.Places.{IsPlacedPage, row_of}
use Rattle.canary_tables_contents.specs.Values.{measurement_of_row}
use Rattle.canary_tables.specs.Desk.{IsDesk, contents_in}
use Rattle.canary_tables.proofs.Sought.{all_found}
use Rattle.canary_tables.proofs.pages.measurements.Goals as goal

pub returns-clause-found : goal.returns-clause-found
returns-clause-found g c usable =
    let old = state g.S.Store c.args.conn.now in
    let desk : IsDesk old = c.requires.ready.desk (c.in_ok-rows.ensures.reads.same usable).0 in
    let page = c.in_ok-rows.ensures.found usable (tables_in old.now) desk.stores (c.requires.noted (c.in_ok-rows.ensures.reads.same usable).0) in
    all_found measurement_of_row (map row_of c.in_ok-rows.rows) _ c.in_ok-recorded.recorded (measurements_of (contents_in old) c.args.name.now c.args.from c.args.most)
    (c.in_ok-recorded.ensures.found ∙ ap (λ (rows : _). map measurement_of_row (map row_of rows)) c.as_slice-2.ensures) page.rows (c.measurements_found.ensures (tables_in old.now) desk.holds c.args.name.now c.args.from c.args.most)

pub returns-clause-mark : goal.returns-clause-mark
returns-clause-mark g c usable =
    let old = state g.S.Store c.args.conn.now in
    let desk : IsDesk old = c.requires.ready.desk (c.in_ok-rows.ensures.reads.same usable).0 in
    let page = c.in_ok-rows.ensures.found usable (tables_in old.now) desk.stores (c.requires.noted (c.in_ok-rows.ensures.reads.same usable).0) in
    c.mark_of-mark.ensures old.now (tables_in old.now) c.args.most (subst (IsPlacedPage old.now (tables_in old.now) c.args.name.now c.args.from c.args.most) (sym c.as_slice.ensures) page)
