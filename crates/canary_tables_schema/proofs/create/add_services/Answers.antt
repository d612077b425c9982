use Rattle.std.proofs.Common.{arith}
use Rattle.sqlite.specs.Held.{state}
use Rattle.sqlite.specs.State.{HasCleanDisk}
use Rattle.canary_tables_schema.specs.Schema.{with_kept, with_service, with_run, with_measurement, with_history}
use Rattle.canary_tables_schema.proofs.Texts.{makes_service, makes_run, makes_measurement, makes_history}
use Rattle.canary_tables_schema.proofs.create.add_services.Goals as goal

pub returns-clause-made : goal.returns-clause-made
returns-clause-made g c clean at =
    let clean3 : HasCleanDisk (state g.S.Store c.add_table-3.new.tx.conn.now) = omega (arith, c.add_table-4.ensures.writes.survives.clean, clean) in
    let clean2 : HasCleanDisk (state g.S.Store c.add_table-2.new.tx.conn.now) = omega (arith, c.add_table-3.ensures.writes.survives.clean, clean3) in
    let clean1 : HasCleanDisk (state g.S.Store c.add_table.new.tx.conn.now) = omega (arith, c.add_table-2.ensures.writes.survives.clean, clean2) in
    let at1 = c.in_ok-add_table.ensures.made with_kept with_service makes_service clean1 at in
    let at2 = c.in_ok-add_table-2.ensures.made with_service with_run makes_run clean2 at1 in
    let at3 = c.in_ok-add_table-3.ensures.made with_run with_measurement makes_measurement clean3 at2 in
    c.in_ok-add_table-4.ensures.made with_measurement with_history makes_history clean at3
