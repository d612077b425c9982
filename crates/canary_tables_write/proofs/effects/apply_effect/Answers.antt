use Rattle.std.proofs.Common.{subst, sym}
use Rattle.sqlite.specs.Held.{state}
use Rattle.canary_tables_schema.specs.Stores.{WroteIf}
use Rattle.canary_tables_contents.specs.Settling.{happened, Asks}
use Rattle.canary_tables_write.proofs.effects.apply_effect.Goals as goal

pub returns-in-RunClosed-clause-wrote : goal.returns-in-RunClosed-clause-wrote
returns-in-RunClosed-clause-wrote g c =
    subst (λ effect. WroteIf (Asks c.args.service.now effect) (happened c.args.service.now effect) (state g.S.Store c.args.tx.now.conn.now) (state g.S.Store c.close.new.tx.conn.now) c.close.result) (sym c.in-RunClosed.is) c.close.ensures.wrote
