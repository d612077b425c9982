use Rattle.sqlite.specs.Held.{state}
use Rattle.canary_tables_write.proofs.TallyInserted.{tally_inserted}
use Rattle.canary_tables_write.proofs.inserts.insert_tally.Goals as goal

pub returns-clause-wrote : goal.returns-clause-wrote
returns-clause-wrote g c clean t ready =
    tally_inserted (state g.S.Store c.args.tx.now.conn.now) (state g.S.Store c.execute.new.self.conn.now) t c.args.service.now c.args.run c.args.metric c.execute.result ready
    (rw (c.params-to_sql.ensures, c.params-to_sql-2.ensures, c.params-to_sql-3.ensures, c.as_str.ensures.value) at (c.execute.ensures.runs clean ready.live))
