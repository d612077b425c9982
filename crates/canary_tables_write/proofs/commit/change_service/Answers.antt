use Rattle.std.proofs.Common.{rules}
use Rattle.sqlite.specs.Held.{state}
use Rattle.canary_tables_write.proofs.Committing.{changes}
use Rattle.canary_tables_write.proofs.commit.change_service.Goals as goal

pub returns-clause-wrote : goal.returns-clause-wrote
returns-clause-wrote g c =
    changes c.args.command.now c.args.parts.now c.args.effects.now c.args.is_bound (state g.S.Store c.args.tx.now.conn.now) (state g.S.Store c.put_service.new.tx.conn.now) (state g.S.Store c.put_bindings.new.tx.conn.now) (state g.S.Store c.apply_effects.new.tx.conn.now)
    c.put_service.result c.put_bindings.result c.apply_effects.result c.in_ok-map_err.field-0 c.in_ok-put_bindings.field-0 c.in_ok-apply_effects.field-0
    c.put_service.ensures.wrote c.put_bindings.ensures.wrote c.apply_effects.ensures.wrote c.put_bindings.ensures.writes.survives c.apply_effects.ensures.writes.survives (search rules) (search rules) (search rules)
