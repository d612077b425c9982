use Rattle.canary_tables_adopt.proofs.LineLemmas.{LinesSoFar}
use Rattle.canary_tables_adopt.proofs.Standing.{Goes}
use Rattle.canary_tables_adopt.proofs.one_service.histories.lines.Given as goal

-- the rows so far are lines'
abbrev pub invariant-pages : goal.invariant-pages
invariant-pages g l =
    Goes g.Q.Reader.IsReady g.Q.Reader.place g.Q.Reader.below l.initial.conn l.conn × LinesSoFar l.name l.count (g.Q.Reader.shows l.initial.conn) (g.Q.Reader.shows l.conn)
