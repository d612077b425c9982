-- Queries one after another.
use Rattle.std.proofs.Common.{ℕ, List}
use Rattle.canary_client_journal.specs.declared.network.Heard.{Heard}
use Rattle.canary_client_journal.specs.declared.network.RetryReason.{RetryReason}
use Rattle.canary_client_journal.specs.Networks.{GoesOn}
use Rattle.canary_client_journal.proofs.NetworkLemmas.{then_on}
use Rattle.canary_client.specs.Promises.{IsQuery}

module _ {N : Type 0} (was_sent : N → List ℕ → Type 0) (was_told : N → List ℕ → Heard → Type 0) (was_unanswered : N → List ℕ → RetryReason → Type 0) where
  -- queries, and then queries
  pub queries_on : (old mid new : N) → GoesOn was_sent was_told was_unanswered old mid IsQuery → GoesOn was_sent was_told was_unanswered mid new IsQuery
      → GoesOn was_sent was_told was_unanswered old new IsQuery
  queries_on old mid new first second =
      then_on was_sent was_told was_unanswered old mid new _ _ _ first second (λ m q. q) (λ m q. q)
