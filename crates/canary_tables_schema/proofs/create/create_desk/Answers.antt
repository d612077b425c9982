use Rattle.std.proofs.Common.{rules}
use Rattle.sqlite.specs.Held.{state}
use Rattle.sqlite.specs.State.{HasCleanDisk}
use Rattle.canary_tables_rows.specs.Tables.{no_tables}
use Rattle.canary_tables_schema.specs.Schema.{no_schema}
use Rattle.canary_tables_schema.specs.Makes.{IsAt}
use Rattle.canary_tables_schema.proofs.Committed.{committed}
use Rattle.canary_tables_schema.proofs.create.create_desk.Goals as goal

pub returns-clause-done : goal.returns-clause-done
returns-clause-done g c usable schema =
    let before : IsAt no_schema (state g.S.Store c.transaction-tx.result.conn.now) = rw c.transaction-tx.ensures.begun (record { live = search rules; schema_is = schema; empty = tt }) in
    let clean3 : HasCleanDisk (state g.S.Store c.write_meta.new.tx.conn.now) = search rules in
    let clean2 : HasCleanDisk (state g.S.Store c.add_indexes.new.tx.conn.now) = search rules in
    let clean1 : HasCleanDisk (state g.S.Store c.add_tables.new.tx.conn.now) = search rules in
    let made = c.in_ok-add_tables.ensures.made clean1 before in
    let indexed = c.in_ok-add_indexes.ensures.made clean2 made in
    let filled = c.in_ok-write_meta.ensures.made clean3 indexed in
    committed (state g.S.Store c.write_meta.new.tx.conn.now).now _ no_tables c.commit.result filled.stores (search rules)
