use Rattle.std.proofs.Common.{arith}
use Rattle.sqlite.specs.Held.{state}
use Rattle.sqlite.specs.State.{HasCleanDisk}
use Rattle.canary_tables_schema.specs.Schema.{with_history, with_revision, with_binding, with_tally}
use Rattle.canary_tables_schema.proofs.Texts.{makes_revision, makes_binding, makes_tally}
use Rattle.canary_tables_schema.proofs.create.add_templates.Goals as goal

pub returns-clause-made : goal.returns-clause-made
returns-clause-made g c clean at =
    let clean2 : HasCleanDisk (state g.S.Store c.add_table-2.new.tx.conn.now) = omega (arith, c.add_table-3.ensures.writes.survives.clean, clean) in
    let clean1 : HasCleanDisk (state g.S.Store c.add_table.new.tx.conn.now) = omega (arith, c.add_table-2.ensures.writes.survives.clean, clean2) in
    let at1 = c.in_ok-add_table.ensures.made with_history with_revision makes_revision clean1 at in
    let at2 = c.in_ok-add_table-2.ensures.made with_revision with_binding makes_binding clean2 at1 in
    c.in_ok-add_table-3.ensures.made with_binding with_tally makes_tally clean at2
