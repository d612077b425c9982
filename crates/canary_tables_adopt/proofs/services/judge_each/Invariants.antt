use Rattle.std.proofs.Common.{◌≡◌, false}
use Rattle.canary_tables_adopt.proofs.AllServices.{ServicesSoFar}
use Rattle.canary_tables_adopt.proofs.Standing.{Goes}
use Rattle.canary_tables_adopt.proofs.services.judge_each.Given as goal

abbrev pub invariant-loop-name : goal.invariant-loop-name
invariant-loop-name g l = Goes g.Q.Reader.IsReady g.Q.Reader.place g.Q.Reader.below l.initial.conn l.conn × ServicesSoFar l.names l.name-index (g.Q.Reader.shows l.initial.conn) (g.Q.Reader.shows l.conn) l.totals
