use Rattle.std.proofs.Common.{arith}
use Rattle.sqlite.specs.Held.{state}
use Rattle.sqlite.specs.State.{HasCleanDisk}
use Rattle.canary_tables_schema.specs.Layout.{made}
use Rattle.canary_tables_schema.specs.Schema.{with_tally, with_runs_indexed, with_measurements_indexed, schema_at}
use Rattle.canary_tables_schema.proofs.Texts.{makes_run_closed, makes_measurement_service, makes_history_service}
use Rattle.canary_tables_schema.proofs.create.add_indexes.Goals as goal

pub returns-clause-made : goal.returns-clause-made
returns-clause-made g c clean at =
    let clean2 : HasCleanDisk (state g.S.Store c.add_index-2.new.tx.conn.now) = omega (arith, c.add_index-3.ensures.writes.survives.clean, clean) in
    let clean1 : HasCleanDisk (state g.S.Store c.add_index.new.tx.conn.now) = omega (arith, c.add_index-2.ensures.writes.survives.clean, clean2) in
    let at1 = c.in_ok-add_index.ensures.made with_tally with_runs_indexed makes_run_closed clean1 at in
    let at2 = c.in_ok-add_index-2.ensures.made with_runs_indexed with_measurements_indexed makes_measurement_service clean2 at1 in
    c.add_index-3.ensures.made with_measurements_indexed (schema_at made) makes_history_service clean at2
