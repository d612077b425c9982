use Rattle.std.proofs.Common.{◌≡◌, [], ◌∷◌}
use Rattle.canary_tables_read.specs.declared.first.FirstTally.{FirstTally}
use Rattle.canary_tables_rows.specs.Tables.{Tables}
use Rattle.canary_migrate.specs.Migrated.{tally_of}
use Rattle.canary_migrate.proofs.Each.{SoFar}
use Rattle.canary_migrate.proofs.Standing.{Goes}
use Rattle.canary_migrate.proofs.tallies.with_passes.Given as goal

abbrev pub invariant-loop-row : goal.invariant-loop-row
invariant-loop-row g l =
    Goes g.Q.Reader.IsReady g.Q.Reader.place g.Q.Reader.below l.initial.conn l.conn × SoFar (λ (t : Tables) (x : FirstTally). tally_of t.measurements x ∷ []) l.rows l.row-index (g.Q.Reader.shows l.initial.conn) (g.Q.Reader.shows l.conn) l.found
