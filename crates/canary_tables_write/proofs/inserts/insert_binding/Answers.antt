use Rattle.sqlite.specs.Held.{state}
use Rattle.canary_tables_write.proofs.BindingInserted.{binding_sound, binding_inserted}
use Rattle.canary_tables_write.proofs.inserts.insert_binding.Goals as goal

pub returns-clause-wrote : goal.returns-clause-wrote
returns-clause-wrote g c clean t ready =
    binding_inserted (state g.S.Store c.args.tx.now.conn.now) (state g.S.Store c.execute.new.self.conn.now) t (record { service = c.args.service.now; run = c.args.run; template = c.args.template.now; revision = c.args.revision }) c.execute.result ready
    (rw (c.params-to_sql.ensures, c.params-to_sql-2.ensures, c.params-to_sql-3.ensures, c.params-to_sql-4.ensures, c.as_str.ensures.value, c.as_str-2.ensures.value) at (c.execute.ensures.runs clean ready.live))

pub returns-clause-sound : goal.returns-clause-sound
returns-clause-sound g c clean t ready was =
    binding_sound (state g.S.Store c.args.tx.now.conn.now) (state g.S.Store c.execute.new.self.conn.now) t (record { service = c.args.service.now; run = c.args.run; template = c.args.template.now; revision = c.args.revision }) c.execute.result ready _ (c.execute.ensures.runs clean ready.live)
