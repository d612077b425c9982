-- What came of sending what is pending.
use Rattle.std.proofs.Common.{◌≡◌, ◌⊎◌, inl, inr, ℕ, List, Bool, true, false, Option, Some, None, refl, sym, ap, ◌∙◌, subst}
use Rattle.std.specs.Prelude.{option_map, unwrap_or, is_some}
use Rattle.canary_client_journal.specs.declared.entry.Asked.{Asked}
use Rattle.canary_client_journal.specs.declared.meaning.Meaning.TheVariants as means
use Rattle.canary_client_journal.specs.Journals.{JournalValue, number_of}
use Rattle.canary_client_journal.specs.Meanings.{meaning_of}
use Rattle.canary_client_journal.specs.declared.network.Heard.{Heard}
use Rattle.canary_client_journal.specs.declared.network.RetryReason.{RetryReason}
use Rattle.canary_client_journal.specs.declared.settle.Tried.{Tried}
use Rattle.canary_client_journal.specs.declared.settle.Tried.TheVariants as tried
use Rattle.canary_client_journal.specs.declared.settle.Unsettled.{Unsettled}
use Rattle.canary_client_journal.specs.declared.settle.Unsettled.TheVariants as unsettled
use Rattle.canary_client_journal.specs.Messages.{request_text}
use Rattle.canary_client_journal.specs.Sending.{body_of, message_of, IsTold, IsTooLate, IsAskedBy, IsSettledBy, IsWhy, IsReused, AreReused, IsOnce, IsFrom, IsOf, IsWrong, is_replaced}

-- if nothing else was asked, the wish is what was asked
only_wish : (instead : Option (List ℕ)) (wish : List ℕ) → is_some instead ≡ false → unwrap_or instead wish ≡ wish
only_wish None wish none = refl
only_wish (Some body) wish none = let never : ⊥ = cc none in absurd never

-- One message.

-- what the body was asked in
pub asked_of : (pending : Option Asked) (is_late : Bool) (body : List ℕ) → Some body ≡ option_map (λ a. body_of a is_late) pending → (a : Asked) × (pending ≡ Some a) × (body ≡ body_of a is_late)
asked_of None is_late body e = let none : ⊥ = cc e in absurd none
asked_of (Some a) is_late body e = (a, refl, ap (λ o. unwrap_or o body) e)

-- the message of a body that is asked for
pub sent_as : (j : JournalValue) (is_late : Bool) (caller body text message : List ℕ) (number : ℕ) → Some body ≡ option_map (λ a. body_of a is_late) j.pending → caller ≡ j.caller → number ≡ number_of j → text ≡ request_text caller number body → message ≡ text
    → (a : Asked) × (j.pending ≡ Some a) × (message ≡ message_of j a is_late)
sent_as j is_late caller body text message number asked by numbered written sent =
    let a = asked_of j.pending is_late body asked in
    (a.0, a.1, sent ∙ written ∙ (λ i. request_text (by i) (numbered i) (a.2 i)))

again : (told : List ℕ → Heard → Type 0) (message : List ℕ) (response : Heard) → told message response → (meaning_of response.status response.body ≡ means.Unavailable) ⊎ (meaning_of response.status response.body ≡ means.Foreign)
    → IsTold told message means.Unavailable ⊎ IsTold told message means.Foreign
again told message response came (inl e) = inl (response, came, e)
again told message response came (inr e) = inr (response, came, e)

module _ (told : List ℕ → Heard → Type 0) (unanswered : List ℕ → RetryReason → Type 0) (j : JournalValue) where
  pub asks : (a : Asked) (is_late : Bool) (message : List ℕ) → j.pending ≡ Some a → message ≡ message_of j a is_late → (is_late ≡ true → IsTooLate told j a) → IsAskedBy told j message
  asks a is_late message pending is late =
      record { asked = a; pending = pending; is_late = is_late; is = is; late = late }

  -- what a reply to it comes to
  pub heard_once : (a : Asked) (is_late : Bool) (message : List ℕ) (response : Heard) → j.pending ≡ Some a → message ≡ message_of j a is_late → (is_late ≡ true → IsTooLate told j a) → told message response
      → (t : Tried) → IsOf response is_late t → IsOnce told unanswered j is_late t
  heard_once a is_late message response pending is late came (tried.Settled reply) of =
      subst (λ r. IsSettledBy told j r) (sym of.0) (record {
        asked = a;
        pending = pending;
        told = subst (λ m. told m response) is came;
        meaning = of.1;
        late = late;
      })
  heard_once a is_late message response pending is late came tried.Reused of =
      (a, pending, (response, subst (λ m. told m response) is came, of))
  heard_once a is_late message response pending is late came (tried.Again why) of =
      (message, asks a is_late message pending is late, inr (again told message response came of))

  -- what an error says of it
  pub wrong_once : (message : List ℕ) (response : Heard) → IsAskedBy told j message → told message response
      → (tries : ℕ) (why : Unsettled) → IsWrong response why → IsWhy told unanswered j tries (λ _. ⊥) why
  wrong_once message response asked came tries unsettled.Pending wrong = absurd wrong
  wrong_once message response asked came tries unsettled.Reused wrong = absurd wrong
  wrong_once message response asked came tries (unsettled.Ahead next) wrong =
      (message, asked, (response, came, wrong))
  wrong_once message response asked came tries unsettled.Unread wrong =
      (message, asked, (response, came, wrong))
  wrong_once message response asked came tries (unsettled.Kept fault) wrong = absurd wrong
  wrong_once message response asked came tries unsettled.Memory wrong = tt

  -- The wish and what was asked in its place.

  both : (a : Asked) → IsTold told (message_of j a false) means.Reused → IsTold told (message_of j a true) means.Reused → (is_late : Bool) → IsTold told (message_of j a is_late) means.Reused
  both a first second true = second
  both a first second false = first

  same_asked : (a b : Asked) → j.pending ≡ Some a → j.pending ≡ Some b → a ≡ b
  same_asked a b one other = cc

  -- and neither is settled
  pub both_reused : IsReused told j false → (t : Tried) → IsOnce told unanswered j true t → IsFrom told unanswered j t
  both_reused first (tried.Settled reply) once = once
  both_reused first tried.Reused once =
      let e = same_asked first.0 once.0 first.1 once.1 in
      (once.0, once.1, both once.0 (subst (λ a. IsTold told (message_of j a false) means.Reused) e first.2) once.2)
  both_reused first (tried.Again why) once = once

  replaced : (a : Asked) → j.pending ≡ Some a → is_replaced j ≡ is_some a.instead
  replaced a pending = ap (λ (asked : Option Asked). unwrap_or (option_map (λ (a : Asked). is_some a.instead) asked) false) pending

  -- something else was asked in the place of the wish: it came too late
  pub too_late : (held : Bool) → held ≡ is_replaced j → held ≡ true → IsReused told j false → (a : Asked) → j.pending ≡ Some a → IsTooLate told j a
  too_late held is holds first a pending =
      let e = same_asked first.0 a first.1 pending in
      (sym (replaced a pending) ∙ (sym is ∙ holds), subst (λ a. IsTold told (message_of j a false) means.Reused) e first.2)

  each_body : (a : Asked) → is_some a.instead ≡ false → IsTold told (message_of j a false) means.Reused → (is_late : Bool) → IsTold told (message_of j a is_late) means.Reused
  each_body a none first true = subst (λ (body : List ℕ). IsTold told (request_text j.caller (number_of j) body) means.Reused) (only_wish a.instead a.wish.body none) first
  each_body a none first false = first

  -- nothing else was asked: the one body is reused
  pub wish_reused : (held : Bool) → held ≡ is_replaced j → held ≡ false → IsReused told j false → AreReused told j
  wish_reused held is fails first =
      (first.0, first.1, each_body first.0 (sym (replaced first.0 first.1) ∙ (sym is ∙ fails)) first.2)
