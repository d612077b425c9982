-- How a network goes on, call after call; and what was answered stays answered.
use Rattle.std.proofs.Common.{⊎_elim, inl, inr, ℕ, ◌<◌, List, Bool, false}
use Rattle.canary_client_journal.specs.declared.entry.Asked.{Asked}
use Rattle.canary_client_journal.specs.declared.meaning.Meaning.{Meaning}
use Rattle.canary_client_journal.specs.declared.meaning.Meaning.TheVariants as means
use Rattle.canary_client_journal.specs.Journals.{JournalValue}
use Rattle.canary_client_journal.specs.declared.network.Heard.{Heard}
use Rattle.canary_client_journal.specs.declared.network.RetryReason.{RetryReason}
use Rattle.canary_client_journal.specs.Networks.{GoesOn}
use Rattle.canary_client_journal.specs.Sending.{message_of, IsTold, IsTooLate, IsAskedBy, IsUnanswered, IsReused}

module _ {N : Type 0} (was_sent : N → List ℕ → Type 0) (was_told : N → List ℕ → Heard → Type 0) (was_unanswered : N → List ℕ → RetryReason → Type 0) where
  -- two runs of calls, one after the other
  pub then_on : (old mid new : N) (P Q R : List ℕ → Type 0) → GoesOn was_sent was_told was_unanswered old mid P → GoesOn was_sent was_told was_unanswered mid new Q
      → ((m : List ℕ) → P m → R m) → ((m : List ℕ) → Q m → R m) → GoesOn was_sent was_told was_unanswered old new R
  then_on old mid new P Q R first second from_p from_q = record {
    sent_still = λ m s. second.sent_still m (first.sent_still m s);
    told_still = λ m response t. second.told_still m response (first.told_still m response t);
    unanswered_still = λ m why u. second.unanswered_still m why (first.unanswered_still m why u);
    sent = λ m s. ⊎_elim (λ b. ⊎_elim (λ a. inl a) (λ p. inr (from_p m p)) (first.sent m b)) (λ q. inr (from_q m q)) (second.sent m s);
    told = λ m response t. ⊎_elim (λ b. ⊎_elim (λ a. inl a) (λ p. inr (second.sent_still m p.0, from_p m p.1)) (first.told m response b)) (λ q. inr (q.0, from_q m q.1)) (second.told m response t);
    unanswered = λ m why u. ⊎_elim (λ b. ⊎_elim (λ a. inl a) (λ p. inr (from_p m p)) (first.unanswered m why b)) (λ q. inr (from_q m q)) (second.unanswered m why u);
  }

  -- what has P has Q
  pub wider : (old new : N) (P Q : List ℕ → Type 0) → GoesOn was_sent was_told was_unanswered old new P → ((m : List ℕ) → P m → Q m) → GoesOn was_sent was_told was_unanswered old new Q
  wider old new P Q goes from = record {
    sent_still = goes.sent_still;
    told_still = goes.told_still;
    unanswered_still = goes.unanswered_still;
    sent = λ m s. ⊎_elim (λ b. inl b) (λ p. inr (from m p)) (goes.sent m s);
    told = λ m response t. ⊎_elim (λ b. inl b) (λ p. inr (p.0, from m p.1)) (goes.told m response t);
    unanswered = λ m why u. ⊎_elim (λ b. inl b) (λ p. inr (from m p)) (goes.unanswered m why u);
  }

module _ (T U : List ℕ → Heard → Type 0) (more : (m : List ℕ) (response : Heard) → T m response → U m response) where
  pub told_more : (m : List ℕ) (meaning : Meaning) → IsTold T m meaning → IsTold U m meaning
  told_more m meaning t = (t.0, more m t.0 t.1, t.2)

  pub reused_more : (j : JournalValue) (is_late : Bool) → IsReused T j is_late → IsReused U j is_late
  reused_more j is_late r = (r.0, r.1, told_more (message_of j r.0 is_late) means.Reused r.2)

  pub late_more : (j : JournalValue) (a : Asked) → IsTooLate T j a → IsTooLate U j a
  late_more j a l = (l.0, told_more (message_of j a false) means.Reused l.1)

  pub asked_more : (j : JournalValue) (m : List ℕ) → IsAskedBy T j m → IsAskedBy U j m
  asked_more j m a = record {
    asked = a.asked;
    pending = a.pending;
    is_late = a.is_late;
    is = a.is;
    late = λ e. late_more j a.asked (a.late e);
  }

  pub unanswered_more : (V W : List ℕ → RetryReason → Type 0) (j : JournalValue) → ((m : List ℕ) (why : RetryReason) → V m why → W m why) → IsUnanswered T V j → IsUnanswered U W j
  unanswered_more V W j still u = (
    u.0,
    asked_more j u.0 u.1,
    ⊎_elim (λ w. inl (w.0, still u.0 w.0 w.1)) (λ o. inr (⊎_elim (λ t. inl (told_more u.0 means.Unavailable t)) (λ t. inr (told_more u.0 means.Foreign t)) o)) u.2,
  )

module _ {N : Type 0} (was_sent : N → List ℕ → Type 0) (was_told : N → List ℕ → Heard → Type 0) (was_unanswered : N → List ℕ → RetryReason → Type 0) (tries : ℕ) (j : JournalValue) where
  -- one try more
  pub one_more : (old mid new : N) → 0 < tries → GoesOn was_sent was_told was_unanswered old mid (λ m. (0 < tries) × IsAskedBy (was_told mid) j m) → GoesOn was_sent was_told was_unanswered mid new (IsAskedBy (was_told new) j)
      → GoesOn was_sent was_told was_unanswered old new (λ m. (0 < tries) × IsAskedBy (was_told new) j m)
  one_more old mid new some first second =
      then_on was_sent was_told was_unanswered old mid new _ _ _ first second (λ m a. (a.0, asked_more (was_told mid) (was_told new) second.told_still j m a.1)) (λ m a. (some, a))

  -- and a pause
  pub rested : (old mid new : N) → GoesOn was_sent was_told was_unanswered old mid (λ m. (0 < tries) × IsAskedBy (was_told mid) j m) → GoesOn was_sent was_told was_unanswered mid new (λ _. ⊥)
      → GoesOn was_sent was_told was_unanswered old new (λ m. (0 < tries) × IsAskedBy (was_told new) j m)
  rested old mid new first second =
      then_on was_sent was_told was_unanswered old mid new _ _ _ first second (λ m a. (a.0, asked_more (was_told mid) (was_told new) second.told_still j m a.1)) (λ m no. absurd no)
