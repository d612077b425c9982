use Rattle.std.proofs.Common.{◌≡◌, take}
use Rattle.sqlite.specs.Held.{state}
use Rattle.canary_tables_write.proofs.Binding.{Rebound}
use Rattle.canary_tables_write.proofs.bindings.rebind_all.Given as goal

-- the attempt is bound to the revisions so far
abbrev pub invariant-loop-revision : goal.invariant-loop-revision
invariant-loop-revision g l =
    (l.tx.conn.ghost_name ≡ l.initial.tx.conn.ghost_name) × Rebound l.service 0 (take l.revision-index l.revisions) (state g.S.Store l.initial.tx.conn.now) (state g.S.Store l.tx.conn.now)
