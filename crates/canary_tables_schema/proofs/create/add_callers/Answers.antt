use Rattle.std.proofs.Common.{arith}
use Rattle.sqlite.specs.Held.{state}
use Rattle.sqlite.specs.State.{HasCleanDisk}
use Rattle.canary_tables_schema.specs.Schema.{no_schema, with_meta, with_caller, with_kept}
use Rattle.canary_tables_schema.proofs.Texts.{makes_meta, makes_caller, makes_kept}
use Rattle.canary_tables_schema.proofs.create.add_callers.Goals as goal

pub returns-clause-made : goal.returns-clause-made
returns-clause-made g c clean at =
    let clean2 : HasCleanDisk (state g.S.Store c.add_table-2.new.tx.conn.now) = omega (arith, c.add_table-3.ensures.writes.survives.clean, clean) in
    let clean1 : HasCleanDisk (state g.S.Store c.add_table.new.tx.conn.now) = omega (arith, c.add_table-2.ensures.writes.survives.clean, clean2) in
    let at1 = c.in_ok-add_table.ensures.made no_schema with_meta makes_meta clean1 at in
    let at2 = c.in_ok-add_table-2.ensures.made with_meta with_caller makes_caller clean2 at1 in
    c.in_ok-add_table-3.ensures.made with_caller with_kept makes_kept clean at2
