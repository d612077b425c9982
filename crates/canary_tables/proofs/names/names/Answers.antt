use Rattle.sqlite.specs.Held.{state}
use Rattle.canary_tables_schema.specs.Cells.{tables_in}
use Rattle.canary_tables.specs.Desk.{IsDesk}
use Rattle.canary_tables.proofs.names.names.Goals as goal

pub returns-clause-found : goal.returns-clause-found
returns-clause-found g c usable =
    let old = state g.S.Store c.args.conn.now in
    let desk : IsDesk old = c.requires.ready.desk (c.in_ok-names.ensures.reads.same usable).0 in
    c.in_ok-names.ensures.found usable (tables_in old.now) desk.stores
