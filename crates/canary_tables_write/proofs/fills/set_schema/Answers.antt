use Rattle.sqlite.specs.Held.{state}
use Rattle.canary_tables_write.proofs.SchemaSet.{schema_set}
use Rattle.canary_tables_write.proofs.SoundAfter.{began}
use Rattle.canary_tables_write.proofs.fills.set_schema.Goals as goal

pub returns-clause-set : goal.returns-clause-set
returns-clause-set g c clean live is before =
    schema_set (state g.S.Store c.args.tx.now.conn.now) (state g.S.Store c.execute.new.self.conn.now) c.execute.result is before (c.execute.ensures.runs clean live)

pub returns-clause-began : goal.returns-clause-began
returns-clause-began g c = began _ _ c.execute.result c.execute.ensures.ended

pub returns-clause-ended : goal.returns-clause-ended
returns-clause-ended g c over = (c.execute.ensures.ended over).1
