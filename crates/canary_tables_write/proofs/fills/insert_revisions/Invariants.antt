use Rattle.std.proofs.Common.{◌≡◌, take}
use Rattle.sqlite.specs.Held.{state}
use Rattle.canary_tables_write.specs.Fills.{with_revisions}
use Rattle.canary_tables_write.proofs.Loops.{SoFar}
use Rattle.canary_tables_write.proofs.Filled.{SoundSoFar}
use Rattle.canary_tables_write.proofs.fills.insert_revisions.Given as goal

abbrev pub invariant-loop-row : goal.invariant-loop-row
invariant-loop-row g l =
    (l.tx.conn.ghost_name ≡ l.initial.tx.conn.ghost_name) × SoFar (with_revisions (take l.row-index l.rows)) (state g.S.Store l.initial.tx.conn.now) (state g.S.Store l.tx.conn.now)
    × SoundSoFar (state g.S.Store l.initial.tx.conn.now) (state g.S.Store l.tx.conn.now)
