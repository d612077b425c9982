use Rattle.std.proofs.Common.{◌≡◌}
use Rattle.canary_migrate.proofs.Each.{RunsSoFar}
use Rattle.canary_migrate.proofs.Standing.{Goes}
use Rattle.canary_migrate.proofs.plan.with_runs.Given as goal

abbrev pub invariant-loop-place : goal.invariant-loop-place
invariant-loop-place g l = Goes g.Q.Reader.IsReady g.Q.Reader.place g.Q.Reader.below l.initial.conn l.conn × RunsSoFar l.row.name l.made l.fn.attempt l.place (g.Q.Reader.shows l.initial.conn) (g.Q.Reader.shows l.conn) l.found
