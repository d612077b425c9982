-- What a network was given and gave, call after call.
use Rattle.std.specs.Prelude.{◌⊎◌, ℕ, List}
use Rattle.canary_client_journal.specs.declared.network.Heard.{Heard}
use Rattle.canary_client_journal.specs.declared.network.RetryReason.{RetryReason}

-- What was sent, and what came of it, stays so. What is new since is of messages that have P: only
-- these may have been sent, and a reply came only to one that was.
pub record GoesOn {N : Type 0} (was_sent : N → List ℕ → Type 0)
    (was_told : N → List ℕ → Heard → Type 0)
    (was_unanswered : N → List ℕ → RetryReason → Type 0)
    (old new : N) (P : List ℕ → Type 0) : Type 0 where
  pub sent_still : (m : List ℕ) → was_sent old m → was_sent new m
  pub told_still : (m : List ℕ) (response : Heard) → was_told old m response
      → was_told new m response
  pub unanswered_still : (m : List ℕ) (why : RetryReason) → was_unanswered old m why
      → was_unanswered new m why
  pub sent : (m : List ℕ) → was_sent new m → was_sent old m ⊎ P m
  pub told : (m : List ℕ) (response : Heard) → was_told new m response
      → was_told old m response ⊎ (was_sent new m × P m)
  pub unanswered : (m : List ℕ) (why : RetryReason) → was_unanswered new m why
      → was_unanswered old m why ⊎ P m
