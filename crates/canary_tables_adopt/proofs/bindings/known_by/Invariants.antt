use Rattle.std.proofs.Common.{◌≡◌, false}
use Rattle.canary_tables_adopt.proofs.KnownBindings.{KnownSoFar}
use Rattle.canary_tables_adopt.proofs.Standing.{Goes}
use Rattle.canary_tables_adopt.proofs.bindings.known_by.Given as goal

-- the templates of the rows so far
abbrev pub invariant-loop-row : goal.invariant-loop-row
invariant-loop-row g l = Goes g.Q.Reader.IsReady g.Q.Reader.place g.Q.Reader.below l.initial.conn l.conn × KnownSoFar l.rows l.row-index (g.Q.Reader.shows l.initial.conn) (g.Q.Reader.shows l.conn) l.known
