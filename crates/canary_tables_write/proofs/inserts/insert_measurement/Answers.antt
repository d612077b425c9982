use Rattle.std.proofs.Common.{◌≡◌, rules, to_z, of_z, w64}
use Rattle.sqlite.specs.Held.{state}
use Rattle.canary_tables_write.proofs.MeasurementInserted.{measurement_inserted}
use Rattle.canary_tables_write.proofs.inserts.insert_measurement.Goals as goal

pub returns-clause-wrote : goal.returns-clause-wrote
returns-clause-wrote g c clean t ready =
    let back : to_z w64 (of_z w64 c.seconds.result) ≡ c.seconds.result = search rules in
    measurement_inserted (state g.S.Store c.args.tx.now.conn.now) (state g.S.Store c.execute.new.self.conn.now) t c.args.row.now c.execute.result ready
    (rw (c.params-to_sql.ensures, c.params-to_sql-2.ensures, c.params-to_sql-3.ensures, c.params-to_sql-4.ensures, c.params-to_sql-5.ensures, c.params-to_sql-6.ensures, c.params-to_sql-7.ensures, c.as_str.ensures.value, c.as_str-2.ensures, back, c.seconds.ensures) at (c.execute.ensures.runs clean ready.live))
