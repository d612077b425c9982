use Rattle.std.proofs.Common.{IsTrue}
use Rattle.canary_client_journal.specs.Networks.{GoesOn}
use Rattle.canary_client.specs.Promises.{IsQuery}
use Rattle.canary_agent.proofs.rounds.Rounds.visit.Given as goal

-- a dry run has sent queries alone so far
abbrev pub invariant-loop-attended : goal.invariant-loop-attended
invariant-loop-attended g l =
    IsTrue l.fn.manner.is_dry_run
    → GoesOn g.N.Network.was_sent g.N.Network.was_told g.N.Network.was_unanswered l.fn.network l.network IsQuery
