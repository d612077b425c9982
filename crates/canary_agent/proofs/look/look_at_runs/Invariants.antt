use Rattle.canary_client_journal.specs.Networks.{GoesOn}
use Rattle.canary_client.specs.Promises.{IsQuery}
use Rattle.canary_agent.proofs.look.look_at_runs.Given as goal

abbrev pub invariant-loop-run : goal.invariant-loop-run
invariant-loop-run g l =
    GoesOn g.N.Network.was_sent g.N.Network.was_told g.N.Network.was_unanswered l.fn.network l.network IsQuery
