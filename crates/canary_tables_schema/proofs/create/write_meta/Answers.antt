use Rattle.sqlite.specs.Held.{state}
use Rattle.canary_tables_schema.proofs.Meta.{meta_written}
use Rattle.canary_tables_schema.proofs.create.write_meta.Goals as goal

pub returns-clause-made : goal.returns-clause-made
returns-clause-made g c clean at =
    meta_written (state g.S.Store c.args.tx.now.conn.now) (state g.S.Store c.execute.new.self.conn.now) c.execute.result at (c.execute.ensures.runs clean at.live)
