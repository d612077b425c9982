use Rattle.std.proofs.Common.{◌≡◌}
use Rattle.canary_client_journal.specs.Messages.{query_text}
use Rattle.canary_client_journal.specs.Networks.{GoesOn}
use Rattle.canary_client.proofs.query.answer.Given as goal

abbrev pub invariant-loop-tried : goal.invariant-loop-tried
invariant-loop-tried g l =
    GoesOn g.N.Network.was_sent g.N.Network.was_told g.N.Network.was_unanswered l.fn.network l.network
    (λ m. m ≡ query_text l.path)
