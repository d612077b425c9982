use Rattle.sqlite.specs.Held.{state}
use Rattle.canary_tables_schema.proofs.Making.{index_added}
use Rattle.canary_tables_schema.proofs.create.add_index.Goals as goal

pub returns-clause-made : goal.returns-clause-made
returns-clause-made g c schema next makes clean at =
    index_added (state g.S.Store c.args.tx.now.conn.now) (state g.S.Store c.execute.new.self.conn.now) c.args.text.now c.execute.result schema next makes at (c.execute.ensures.runs clean at.live)
