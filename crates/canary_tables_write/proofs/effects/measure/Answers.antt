use Rattle.std.proofs.Common.{rules}
use Rattle.sqlite.specs.Held.{state}
use Rattle.canary_tables_write.proofs.Happening.{measured}
use Rattle.canary_tables_write.proofs.effects.measure.Goals as goal

pub returns-clause-wrote : goal.returns-clause-wrote
returns-clause-wrote g c =
    measured c.args.service.now c.args.recorded.now c.in_ok-row.row (state g.S.Store c.args.tx.now.conn.now) (state g.S.Store c.insert_measurement.new.tx.conn.now) (state g.S.Store c.count_measurement.new.tx.conn.now) c.insert_measurement.result c.count_measurement.result c.in_ok-map_err.field-0 c.in_ok-map_err-2.field-0
    (search rules) c.insert_measurement.ensures.wrote c.count_measurement.ensures.wrote c.count_measurement.ensures.writes.survives (search rules) (search rules)
