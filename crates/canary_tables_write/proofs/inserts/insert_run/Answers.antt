use Rattle.std.proofs.Common.{◌≡◌, rules, to_z, of_z, w64}
use Rattle.sqlite.specs.Held.{state}
use Rattle.canary_tables_write.proofs.RunInserted.{run_inserted}
use Rattle.canary_tables_write.proofs.inserts.insert_run.Goals as goal

pub returns-clause-wrote : goal.returns-clause-wrote
returns-clause-wrote g c clean t ready =
    let back : to_z w64 (of_z w64 c.seconds.result) ≡ c.seconds.result = search rules in
    run_inserted (state g.S.Store c.args.tx.now.conn.now) (state g.S.Store c.execute.new.self.conn.now) t c.args.service.now c.args.number c.args.step c.args.started c.execute.result ready _ (search rules)
    (rw (c.params-to_sql.ensures, c.params-to_sql-2.ensures, c.params-to_sql-3.ensures, c.params-to_sql-4.ensures, c.as_str.ensures.value, back, c.seconds.ensures) at (c.execute.ensures.runs clean ready.live))
