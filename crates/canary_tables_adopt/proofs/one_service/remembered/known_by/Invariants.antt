use Rattle.canary_tables_adopt.proofs.RememberedLemmas.{RememberedSoFar}
use Rattle.canary_tables_adopt.proofs.Standing.{Goes}
use Rattle.canary_tables_adopt.proofs.one_service.remembered.known_by.Given as goal

-- the templates of the rows so far
abbrev pub invariant-loop-row : goal.invariant-loop-row
invariant-loop-row g l =
    Goes g.Q.Reader.IsReady g.Q.Reader.place g.Q.Reader.below l.initial.conn l.conn × RememberedSoFar l.rows l.row-index l.initial.memo (g.Q.Reader.shows l.initial.conn) (g.Q.Reader.shows l.conn) l.known l.memo
