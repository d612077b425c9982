use Rattle.sqlite.specs.Held.{state}
use Rattle.canary_tables_schema.proofs.Remaking.{adds_index}
use Rattle.canary_tables_schema.proofs.remake.add_index.Goals as goal

pub returns-clause-made : goal.returns-clause-made
returns-clause-made g c schema next kept makes clean live is =
    adds_index (state g.S.Store c.args.tx.now.conn.now) (state g.S.Store c.execute.new.self.conn.now) schema next kept c.args.text.now is makes c.execute.result (c.execute.ensures.runs clean live)
