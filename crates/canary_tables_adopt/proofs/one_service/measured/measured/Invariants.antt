use Rattle.canary_tables_adopt.specs.Measured.{IsNoted}
use Rattle.canary_tables_adopt.proofs.MeasuredLemmas.{MeasuredSoFar}
use Rattle.canary_tables_adopt.proofs.Standing.{Goes}
use Rattle.canary_tables_adopt.proofs.one_service.measured.measured.Given as goal

-- the measurements so far are counted, and where they end is known, if it is
abbrev pub invariant-pages : goal.invariant-pages
invariant-pages g l =
    Goes g.Q.Reader.IsReady g.Q.Reader.place g.Q.Reader.below l.initial.conn l.conn × MeasuredSoFar l.name l.runs l.so_far (g.Q.Reader.shows l.initial.conn) (g.Q.Reader.shows l.conn) × IsNoted (g.Q.Reader.shows l.conn) l.name l.so_far
