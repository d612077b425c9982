use Rattle.std.proofs.Common.{◌≡◌}
use Rattle.canary_tables_rows.specs.Tables.{Tables}
use Rattle.canary_migrate.specs.Migrated.{bindings_named}
use Rattle.canary_migrate.proofs.Each.{SoFar}
use Rattle.canary_migrate.proofs.Standing.{Goes}
use Rattle.canary_migrate.proofs.plan.bindings_of_all.Given as goal

abbrev pub invariant-loop-name : goal.invariant-loop-name
invariant-loop-name g l = Goes g.Q.Reader.IsReady g.Q.Reader.place g.Q.Reader.below l.initial.conn l.conn × SoFar (λ (t : Tables). bindings_named t.services t.runs) l.names l.name-index (g.Q.Reader.shows l.initial.conn) (g.Q.Reader.shows l.conn) l.found
