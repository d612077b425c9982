use Rattle.std.proofs.Common.{◌≡◌, take}
use Rattle.sqlite.specs.Held.{state}
use Rattle.canary_tables_write.proofs.Happening.{SoFar}
use Rattle.canary_tables_write.proofs.effects.apply_effects.Given as goal

-- the effects so far have happened
abbrev pub invariant-loop-effect : goal.invariant-loop-effect
invariant-loop-effect g l =
    (l.tx.conn.ghost_name ≡ l.initial.tx.conn.ghost_name) × SoFar l.service (take l.effect-index l.effects) (state g.S.Store l.initial.tx.conn.now) (state g.S.Store l.tx.conn.now)
