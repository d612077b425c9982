use Rattle.std.proofs.Common.{◌≤◌, ◌-◌}
use Rattle.canary_tables_adopt.proofs.PageLemmas.{PagesSoFar}
use Rattle.canary_tables_adopt.proofs.Standing.{Goes}
use Rattle.canary_tables_adopt.proofs.one_service.runs.runs.Given as goal

-- the runs so far are found
abbrev pub invariant-loop-alloc : goal.invariant-loop-alloc
invariant-loop-alloc g l =
    Goes g.Q.Reader.IsReady g.Q.Reader.place g.Q.Reader.below l.initial.conn l.conn × (l.so_far.count ≤ l.count) × PagesSoFar l.strategy l.name l.so_far (g.Q.Reader.shows l.initial.conn) (g.Q.Reader.shows l.conn)

abbrev pub decreases-loop-alloc : goal.decreases-loop-alloc
decreases-loop-alloc g l = l.count - l.so_far.count
