use Rattle.std.proofs.Common.{arith, subst, sym, ap, ◌∙◌}
use Rattle.sqlite.specs.Held.{state}
use Rattle.sqlite.specs.State.{HasCleanDisk}
use Rattle.canary_tables_write.specs.Fills.{HasOneId}
use Rattle.canary_migrate.proofs.Moved.{one_id, all_made}
use Rattle.canary_migrate.proofs.fill.make.Goals as goal

pub returns-clause-made : goal.returns-clause-made
returns-clause-made g c clean live first =
    let clean0 : HasCleanDisk (state g.S.Store c.remake.new.tx.conn.now) = omega (arith, c.set_schema.ensures.writes.survives.clean, clean) in
    let remade = c.in_ok-remake.ensures.made clean0 live first.0 in
    all_made c.set_schema.result (state g.S.Store c.args.tx.now.conn.now) (state g.S.Store c.remake.new.tx.conn.now) (state g.S.Store c.set_schema.new.tx.conn.now) remade
    (c.set_schema.ensures.set clean remade.live remade.schema (subst HasOneId (sym remade.stays.0) (one_id _ first.1)))
