use Rattle.sqlite.specs.Held.{state}
use Rattle.canary_tables_write.proofs.CallerUpdated.{caller_updated}
use Rattle.canary_tables_write.proofs.updates.update_caller.Goals as goal

pub returns-clause-wrote : goal.returns-clause-wrote
returns-clause-wrote g c clean t ready one =
    caller_updated (state g.S.Store c.args.tx.now.conn.now) (state g.S.Store c.execute.new.self.conn.now) t c.args.name.now c.args.settled c.execute.result ready one
    (rw (c.params-to_sql.ensures, c.params-to_sql-2.ensures, c.as_str.ensures.value) at (c.execute.ensures.runs clean ready.live))
