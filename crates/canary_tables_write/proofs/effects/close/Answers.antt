use Rattle.std.proofs.Common.{rules}
use Rattle.sqlite.specs.Held.{state}
use Rattle.canary_tables_write.proofs.Happening.{closed}
use Rattle.canary_tables_write.proofs.effects.close.Goals as goal

pub returns-clause-wrote : goal.returns-clause-wrote
returns-clause-wrote g c =
    closed c.args.service.now c.args.closing.now c.from-outside.result c.in_ok-verdict.verdict (state g.S.Store c.args.tx.now.conn.now) (state g.S.Store c.close_run.new.tx.conn.now) c.close_run.result c.in_ok-map_err.field-0
    (search rules) (search rules) c.close_run.ensures.wrote (search rules)
