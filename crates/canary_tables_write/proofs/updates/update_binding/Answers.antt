use Rattle.sqlite.specs.Held.{state}
use Rattle.canary_tables_write.proofs.BindingUpdated.{binding_updated}
use Rattle.canary_tables_write.proofs.updates.update_binding.Goals as goal

pub returns-clause-wrote : goal.returns-clause-wrote
returns-clause-wrote g c clean t ready one =
    binding_updated (state g.S.Store c.args.tx.now.conn.now) (state g.S.Store c.execute.new.self.conn.now) t c.args.service.now c.args.run c.args.template.now c.args.revision c.execute.result ready one
    (rw (c.params-to_sql.ensures, c.params-to_sql-2.ensures, c.params-to_sql-3.ensures, c.params-to_sql-4.ensures, c.as_str.ensures.value, c.as_str-2.ensures.value) at (c.execute.ensures.runs clean ready.live))
