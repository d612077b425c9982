use Rattle.std.proofs.Common.{◌≡◌, rules, to_z, of_z, w64}
use Rattle.sqlite.specs.Held.{state}
use Rattle.canary_tables_write.proofs.RunClosed.{run_closed}
use Rattle.canary_tables_write.proofs.updates.close_run.Goals as goal

pub returns-clause-wrote : goal.returns-clause-wrote
returns-clause-wrote g c clean t ready one =
    let back : to_z w64 (of_z w64 c.seconds.result) ≡ c.seconds.result = search rules in
    run_closed (state g.S.Store c.args.tx.now.conn.now) (state g.S.Store c.execute.new.self.conn.now) t c.args.service.now c.args.number c.args.closed c.args.outside c.args.verdict c.execute.result ready one
    (rw (c.params-to_sql.ensures, c.params-to_sql-2.ensures, c.params-to_sql-3.ensures, back, c.params-to_sql-4.ensures, c.params-to_sql-5.ensures, c.as_str.ensures.value, c.seconds.ensures) at (c.execute.ensures.runs clean ready.live))
