use Rattle.std.proofs.Common.{◌≡◌}
use Rattle.sqlite.specs.Held.{state}
use Rattle.canary_tables_rows.specs.Changes.{tallies_opened}
use Rattle.canary_tables_write.proofs.Loops.{SoFar}
use Rattle.canary_tables_write.proofs.inserts.insert_tallies.Given as goal

abbrev pub invariant-loop-metric : goal.invariant-loop-metric
invariant-loop-metric g l =
    (l.tx.conn.ghost_name ≡ l.initial.tx.conn.ghost_name) × SoFar (tallies_opened l.service l.run 0 l.metric) (state g.S.Store l.initial.tx.conn.now) (state g.S.Store l.tx.conn.now)
