use Rattle.std.proofs.Common.{◌≡◌, false}
use Rattle.sqlite.specs.Held.{state}
use Rattle.canary_tables.proofs.FoundRuns.{RunsSoFar}
use Rattle.canary_tables.proofs.load_runs.with_tallies.Given as goal

abbrev pub invariant-loop-row : goal.invariant-loop-row
invariant-loop-row g l = (l.conn.in_transaction ≡ false) × RunsSoFar l.bound l.name l.rows l.row-index (state g.S.Store l.initial.conn) (state g.S.Store l.conn) l.found
