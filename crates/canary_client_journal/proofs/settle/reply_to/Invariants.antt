use Rattle.std.proofs.Common.{◌<◌}
use Rattle.canary_client_journal.specs.Networks.{GoesOn}
use Rattle.canary_client_journal.specs.Sending.{IsAskedBy, IsUnanswered}
use Rattle.canary_client_journal.proofs.settle.reply_to.Given as goal

abbrev pub invariant-loop-tried : goal.invariant-loop-tried
invariant-loop-tried g l = record {
  network : GoesOn g.N.Network.was_sent g.N.Network.was_told g.N.Network.was_unanswered l.fn.network l.network
      (λ m. (0 < l.tries) × IsAskedBy (g.N.Network.was_told l.network) l.journal m);
  last : 0 < l.tried → IsUnanswered (g.N.Network.was_told l.network) (g.N.Network.was_unanswered l.network) l.journal;
}
