use Rattle.std.proofs.Common.{◌≡◌, rules, to_z, of_z, w64}
use Rattle.sqlite.specs.Held.{state}
use Rattle.canary_tables_write.proofs.ServiceUpdated.{service_updated}
use Rattle.canary_tables_write.proofs.updates.update_service.Goals as goal

pub returns-clause-wrote : goal.returns-clause-wrote
returns-clause-wrote g c clean t ready one =
    let entered : to_z w64 (of_z w64 c.seconds.result) ≡ c.seconds.result = search rules in
    let last : to_z w64 (of_z w64 c.seconds-2.result) ≡ c.seconds-2.result = search rules in
    service_updated (state g.S.Store c.args.tx.now.conn.now) (state g.S.Store c.execute.new.self.conn.now) t c.args.name.now c.args.standing.now c.execute.result ready one
    (rw (c.params-to_sql.ensures, c.params-to_sql-2.ensures, c.params-to_sql-3.ensures, c.params-to_sql-4.ensures, c.params-to_sql-5.ensures, c.params-to_sql-6.ensures, entered, c.params-to_sql-7.ensures, c.params-to_sql-8.ensures, c.params-to_sql-9.ensures, c.params-to_sql-10.ensures, last, c.as_str.ensures.value, c.as_str-2.ensures.value, c.as_str-3.ensures.value, c.seconds.ensures, c.seconds-2.ensures) at (c.execute.ensures.runs clean ready.live))
