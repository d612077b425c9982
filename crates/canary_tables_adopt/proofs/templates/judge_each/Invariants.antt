use Rattle.std.proofs.Common.{◌≡◌, false}
use Rattle.canary_tables_adopt.specs.Templates.{IsJudgedUnder}
use Rattle.canary_tables_adopt.proofs.Each.{EachSoFar}
use Rattle.canary_tables_adopt.proofs.Standing.{Goes}
use Rattle.canary_tables_adopt.proofs.templates.judge_each.Given as goal

abbrev pub invariant-loop-key : goal.invariant-loop-key
invariant-loop-key g l = Goes g.Q.Reader.IsReady g.Q.Reader.place g.Q.Reader.below l.initial.conn l.conn × EachSoFar IsJudgedUnder l.keys l.key-index (g.Q.Reader.shows l.initial.conn) (g.Q.Reader.shows l.conn)
