use Rattle.sqlite.specs.Held.{state}
use Rattle.canary_tables_write.proofs.RevisionInserted.{revision_sound, revision_inserted}
use Rattle.canary_tables_write.proofs.inserts.insert_revision.Goals as goal

pub returns-clause-wrote : goal.returns-clause-wrote
returns-clause-wrote g c clean t ready =
    revision_inserted (state g.S.Store c.args.tx.now.conn.now) (state g.S.Store c.execute.new.self.conn.now) t (record { name = c.args.name.now; revision = c.args.revision; spec = c.args.spec.now }) c.execute.result ready
    (rw (c.params-to_sql.ensures, c.params-to_sql-2.ensures, c.params-to_sql-3.ensures, c.as_str.ensures.value) at (c.execute.ensures.runs clean ready.live))

pub returns-clause-sound : goal.returns-clause-sound
returns-clause-sound g c clean t ready was =
    revision_sound (state g.S.Store c.args.tx.now.conn.now) (state g.S.Store c.execute.new.self.conn.now) t (record { name = c.args.name.now; revision = c.args.revision; spec = c.args.spec.now }) c.execute.result ready _ (c.execute.ensures.runs clean ready.live)
