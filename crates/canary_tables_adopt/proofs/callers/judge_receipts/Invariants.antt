use Rattle.std.proofs.Common.{◌≤◌, ◌-◌}
use Rattle.canary_tables_adopt.proofs.JudgedCallers.{NumbersSoFar}
use Rattle.canary_tables_adopt.proofs.Standing.{Goes}
use Rattle.canary_tables_adopt.proofs.callers.judge_receipts.Given as goal

-- the numbers so far are judged
abbrev pub invariant-loop-before : goal.invariant-loop-before
invariant-loop-before g l =
    Goes g.Q.Reader.IsReady g.Q.Reader.place g.Q.Reader.below l.initial.conn l.conn × (l.before ≤ l.settled) × NumbersSoFar l.caller l.before (g.Q.Reader.shows l.initial.conn) (g.Q.Reader.shows l.conn)

abbrev pub decreases-loop-before : goal.decreases-loop-before
decreases-loop-before g l = l.settled - l.before
