use Rattle.sqlite.specs.Held.{state}
use Rattle.canary_tables_write.proofs.KeptInserted.{kept_inserted}
use Rattle.canary_tables_write.proofs.inserts.insert_kept.Goals as goal

pub returns-clause-wrote : goal.returns-clause-wrote
returns-clause-wrote g c clean t ready =
    kept_inserted (state g.S.Store c.args.tx.now.conn.now) (state g.S.Store c.execute.new.self.conn.now) t (record { caller = c.args.caller.now; number = c.args.number; command = c.args.command.now; status = c.args.status; body = c.args.body.now }) c.execute.result ready
    (rw (c.params-to_sql.ensures, c.params-to_sql-2.ensures, c.params-to_sql-3.ensures, c.params-to_sql-4.ensures, c.params-to_sql-5.ensures, c.as_str.ensures.value) at (c.execute.ensures.runs clean ready.live))
