use Rattle.sqlite.specs.Held.{state}
use Rattle.canary_tables_schema.proofs.Remaking.{drops_table}
use Rattle.canary_tables_schema.proofs.remake.drop_table.Goals as goal

pub returns-clause-made : goal.returns-clause-made
returns-clause-made g c schema next kept makes clean live is =
    drops_table (state g.S.Store c.args.tx.now.conn.now) (state g.S.Store c.execute.new.self.conn.now) schema next kept c.args.text.now is makes c.execute.result (c.execute.ensures.runs clean live)
