use Rattle.sqlite.specs.Held.{state}
use Rattle.canary_tables_write.proofs.CallerInserted.{caller_inserted}
use Rattle.canary_tables_write.proofs.inserts.insert_caller.Goals as goal

pub returns-clause-wrote : goal.returns-clause-wrote
returns-clause-wrote g c clean t ready =
    caller_inserted (state g.S.Store c.args.tx.now.conn.now) (state g.S.Store c.execute.new.self.conn.now) t c.args.name.now c.execute.result ready
    (rw (c.params-to_sql.ensures, c.as_str.ensures.value) at (c.execute.ensures.runs clean ready.live))
