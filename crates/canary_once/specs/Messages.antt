-- Messages of any kind, such as requests over HTTP or rows of a file, and what comes of them.
use Rattle.std.specs.Prelude.{◌≡◌, ℕ, ◌+◌, ◌<◌, Bool, List, [], ◌∷◌, length, map, flat_map, slice_index}
use Rattle.std.specs.List.{AllByRecursion}
use Rattle.canary_once.specs.declared.event.Event.{Event}
use Rattle.canary_once.specs.declared.event.Answer.{Answer}
use Rattle.canary_once.specs.Contents.{Contents, KeepsReceipts}
use Rattle.canary_once.specs.Sound.{AreSoundContents}
use Rattle.canary_once.specs.BookCalls.{BookState, StaysInMemory}
use Rattle.canary_once.specs.Answers.{replies_in, answered_events, answers_of, after}
use Rattle.canary_once.specs.Single.{IsAnswer, IsFaultOf}

-- ---- what comes of a message

-- it is rejected, and why, or memory ran out as it was read, or it is an event for the register,
-- which answered
pub data Disposition (Rejection : Type 0) : Type 0 where
  rejected : Rejection → Disposition Rejection
  no_memory : Disposition Rejection
  answered : Event → Answer → Disposition Rejection

-- only over a book that is not sure an event is answered 503 for its store
abbrev pub IsSureDisposition : {Rejection : Type 0} → Bool → Disposition Rejection → Type 0
IsSureDisposition sure (rejected rejection) = Unit {0}
IsSureDisposition sure no_memory = Unit {0}
IsSureDisposition sure (answered event answer) = IsFaultOf sure answer

-- ---- exchanges

-- a message, the moment that the clock gave for it, and what came of it
pub record Exchange (Message Rejection : Type 0) : Type 0 where
  pub message : Message
  pub moment : ℕ
  pub disposition : Disposition Rejection

abbrev pub messages_of : {M R : Type 0} → List (Exchange M R) → List M
messages_of xs = map (λ x. x.message) xs

abbrev pub moments_of : {M R : Type 0} → List (Exchange M R) → List ℕ
moments_of xs = map (λ x. x.moment) xs

-- the events that the register was asked, in order, and its answers
abbrev pub event_in : {R : Type 0} → Disposition R → List Event
event_in (rejected rejection) = []
event_in no_memory = []
event_in (answered event answer) = event ∷ []

abbrev pub answer_in : {R : Type 0} → Disposition R → List Answer
answer_in (rejected rejection) = []
answer_in no_memory = []
answer_in (answered event answer) = answer ∷ []

abbrev pub events_of : {M R : Type 0} → List (Exchange M R) → List Event
events_of xs = flat_map (λ x. event_in x.disposition) xs

abbrev pub answers_in : {M R : Type 0} → List (Exchange M R) → List Answer
answers_in xs = flat_map (λ x. answer_in x.disposition) xs

-- ---- where the desk stands

-- the moments that its clock will give, and how its book stands
pub record DeskState : Type 1 where
  pub clock : (ℕ → ℕ) → Type 0
  pub book : BookState

abbrev pub desk_state : ((ℕ → ℕ) → Type 0) → BookState → DeskState
desk_state clock book = record { clock = clock; book = book }

-- of all moments these are the first
abbrev pub AreFirst : (ℕ → ℕ) → List ℕ → Type 0
AreFirst moment_at moments = (k : ℕ) → k < length moments → slice_index moments k ≡ moment_at k

-- (here `Is` says of an exchange that this may come of such a message)
-- from one point to another these exchanges were held, in order: the k-th message has the clock's
-- k-th moment, and of the events answered otherwise than by 503 the answers, and the contents
-- afterwards, are those of the small machine, which stay sound
pub record AnsweredInOrder {M R : Type 0} (Is : Exchange M R → Type 0) (old new : DeskState)
    (xs : List (Exchange M R)) : Type 0 where
  pub each : AllByRecursion Is xs
  pub moments : (moment_at : ℕ → ℕ) → old.clock moment_at
      → AreFirst moment_at (moments_of xs) × new.clock (λ k. moment_at (k + length xs))
  pub honest : new.book.is_honest → old.book.is_honest
  pub in_memory : StaysInMemory old.book new.book
  pub sure : (new.book.is_sure ≡ old.book.is_sure)
      × AllByRecursion (λ x. IsSureDisposition old.book.is_sure x.disposition) xs
  pub sound : new.book.is_honest → AreSoundContents old.book.contents
      → AreSoundContents new.book.contents
  pub answers : new.book.is_honest
      → replies_in (answers_in xs)
      ≡ answers_of old.book.contents (answered_events (events_of xs) (answers_in xs))
  pub contents : new.book.is_honest
      → new.book.contents ≡ after old.book.contents (answered_events (events_of xs) (answers_in xs))
  pub receipts : new.book.is_honest → KeepsReceipts old.book.contents new.book.contents

-- ---- step by step

-- one message is handled so, with the contents before and after
abbrev pub IsHandled : {R : Type 0} → Contents → Disposition R → Contents → Type 0
IsHandled c (rejected rejection) new = new ≡ c
IsHandled c no_memory new = new ≡ c
IsHandled c (answered event answer) new = IsAnswer c event answer new

-- messages are, one after another
abbrev pub AreHandled : {M R : Type 0} → Contents → List (Exchange M R) → Contents → Type 0
AreHandled c [] new = new ≡ c
AreHandled c (x ∷ xs) new = (mid : Contents) × IsHandled c x.disposition mid × AreHandled mid xs new

-- what the book did as one message was handled
pub record BookStep {R : Type 0} (old new : BookState) (d : Disposition R) : Type 0 where
  pub honest : new.is_honest → old.is_honest
  pub in_memory : StaysInMemory old new
  pub sure : (new.is_sure ≡ old.is_sure) × IsSureDisposition old.is_sure d
  pub sound : new.is_honest → AreSoundContents old.contents → AreSoundContents new.contents
  pub handled : new.is_honest → IsHandled old.contents d new.contents
  pub receipts : new.is_honest → KeepsReceipts old.contents new.contents

-- one message is answered
pub record HandledOne {M R : Type 0} (Is : Exchange M R → Type 0) (old new : DeskState)
    (x : Exchange M R) : Type 0 where
  pub is : Is x
  pub moment : (moment_at : ℕ → ℕ) → old.clock moment_at
      → (x.moment ≡ moment_at 0) × new.clock (λ k. moment_at (k + 1))
  pub books : BookStep old.book new.book x.disposition

-- messages are answered, one after another
pub record HandledAll {M R : Type 0} (Is : Exchange M R → Type 0) (old new : DeskState)
    (xs : List (Exchange M R)) : Type 0 where
  pub each : AllByRecursion Is xs
  pub moments : (moment_at : ℕ → ℕ) → old.clock moment_at
      → AreFirst moment_at (moments_of xs) × new.clock (λ k. moment_at (k + length xs))
  pub honest : new.book.is_honest → old.book.is_honest
  pub in_memory : StaysInMemory old.book new.book
  pub sure : (new.book.is_sure ≡ old.book.is_sure)
      × AllByRecursion (λ x. IsSureDisposition old.book.is_sure x.disposition) xs
  pub sound : new.book.is_honest → AreSoundContents old.book.contents
      → AreSoundContents new.book.contents
  pub handled : new.book.is_honest → AreHandled old.book.contents xs new.book.contents
  pub receipts : new.book.is_honest → KeepsReceipts old.book.contents new.book.contents
