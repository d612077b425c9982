-- Sending what is pending in a journal until it is settled.
use Rattle.std.specs.Prelude.{◌≡◌, ◌⊎◌, ℕ, ◌+◌, ◌^◌, ◌≤◌, length, Bool, true, false, if◌then◌else◌, List, Some, None, Result, Ok, Err, option_map, unwrap_or, is_some}
use Rattle.canary_client_journal.specs.declared.entry.Asked.{Asked}
use Rattle.canary_client_journal.specs.declared.entry.SettledReply.{SettledReply}
use Rattle.canary_client_journal.specs.declared.entry.JournalEntry.TheVariants as entry
use Rattle.canary_client_journal.specs.declared.meaning.Meaning.{Meaning}
use Rattle.canary_client_journal.specs.declared.meaning.Meaning.TheVariants as means
use Rattle.canary_client_journal.specs.Journals.{JournalValue, number_of, settles}
use Rattle.canary_client_journal.specs.Lines.{line_of}
use Rattle.canary_client_journal.specs.Meanings.{meaning_of}
use Rattle.canary_client_journal.specs.Readings.{journal_in}
use Rattle.canary_client_journal.specs.declared.kept.KeepFault.{KeepFault}
use Rattle.canary_client_journal.specs.declared.network.Heard.{Heard}
use Rattle.canary_client_journal.specs.declared.network.RetryReason.{RetryReason}
use Rattle.canary_client_journal.specs.declared.network.RetryReason.TheVariants as why
use Rattle.canary_client_journal.specs.declared.settle.Tried.{Tried}
use Rattle.canary_client_journal.specs.declared.settle.Tried.TheVariants as tried
use Rattle.canary_client_journal.specs.declared.settle.Unsettled.{Unsettled}
use Rattle.canary_client_journal.specs.declared.settle.Unsettled.TheVariants as unsettled
use Rattle.canary_client_journal.specs.Keeping.{IsFault}
use Rattle.canary_client_journal.specs.Messages.{request_text}

-- the body that is sent: what was asked last, or the wish although something else was asked
abbrev pub body_of : Asked → Bool → List ℕ
body_of a is_late = if is_late then a.wish.body else unwrap_or a.instead a.wish.body

-- the message of that body, under the number that is pending
abbrev pub message_of : JournalValue → Asked → Bool → List ℕ
message_of j a is_late = request_text j.caller (number_of j) (body_of a is_late)

-- Of which messages, and which replies.

-- a reply that means this came to the message
abbrev pub IsTold : (List ℕ → Heard → Type 0) → List ℕ → Meaning → Type 0
IsTold was_told m meaning =
    (response : Heard) × was_told m response × (meaning_of response.status response.body ≡ meaning)

-- something else was asked in the place of the wish, and came too late: the desk answered that
-- another command was settled under the number
abbrev pub IsTooLate : (List ℕ → Heard → Type 0) → JournalValue → Asked → Type 0
IsTooLate was_told j a =
    (is_some a.instead ≡ true) × IsTold was_told (message_of j a false) means.Reused

-- what is pending asks for the message: it is that of what was asked last, or, if that came too
-- late, of the wish
pub record IsAskedBy (was_told : List ℕ → Heard → Type 0) (j : JournalValue)
    (message : List ℕ) : Type 0 where
  pub asked : Asked
  pub pending : j.pending ≡ Some asked
  pub is_late : Bool
  pub is : message ≡ message_of j asked is_late
  pub late : is_late ≡ true → IsTooLate was_told j asked

-- a reply that means this came to a message that is asked for
abbrev pub IsAnswered : (List ℕ → Heard → Type 0) → JournalValue → Meaning → Type 0
IsAnswered was_told j meaning =
    (m : List ℕ) × IsAskedBy was_told j m × IsTold was_told m meaning

-- this reply came to one of these messages, and settles the number
pub record IsSettledBy (was_told : List ℕ → Heard → Type 0) (j : JournalValue)
    (reply : SettledReply) : Type 0 where
  pub asked : Asked
  pub pending : j.pending ≡ Some asked
  pub told : was_told (message_of j asked reply.is_late)
      (record { status = reply.status; body = reply.body })
  pub meaning : meaning_of reply.status reply.body ≡ means.Settled
  -- a late reply is one to what something else was asked in the place of, too late
  pub late : reply.is_late ≡ true → IsTooLate was_told j asked

-- the desk answered to each body that is pending that another command was settled
abbrev pub AreReused : (List ℕ → Heard → Type 0) → JournalValue → Type 0
AreReused was_told j =
    (a : Asked) × (j.pending ≡ Some a)
    × ((is_late : Bool) → IsTold was_told (message_of j a is_late) means.Reused)

-- no reply came to the message, or one that says nothing of its number
abbrev pub IsWithoutAnswer : (List ℕ → Heard → Type 0) → (List ℕ → RetryReason → Type 0) → List ℕ
    → Type 0
IsWithoutAnswer was_told was_unanswered m =
    ((why : RetryReason) × was_unanswered m why)
    ⊎ (IsTold was_told m means.Unavailable ⊎ IsTold was_told m means.Foreign)

-- so it is of a message that is asked for
abbrev pub IsUnanswered : (List ℕ → Heard → Type 0) → (List ℕ → RetryReason → Type 0)
    → JournalValue → Type 0
IsUnanswered was_told was_unanswered j =
    (m : List ℕ) × IsAskedBy was_told j m × IsWithoutAnswer was_told was_unanswered m

-- What sending comes to.

-- why a number is not settled, by the error that says so
abbrev pub IsWhy : (List ℕ → Heard → Type 0) → (List ℕ → RetryReason → Type 0) → JournalValue → ℕ
    → (KeepFault → Type 0) → Unsettled → Type 0
IsWhy was_told was_unanswered j tries is_fault unsettled.Pending =
    (tries ≡ 0) ⊎ ((j.pending ≡ None) ⊎ IsUnanswered was_told was_unanswered j)
IsWhy was_told was_unanswered j tries is_fault unsettled.Reused = AreReused was_told j
IsWhy was_told was_unanswered j tries is_fault (unsettled.Ahead next) =
    IsAnswered was_told j (means.Ahead next)
IsWhy was_told was_unanswered j tries is_fault unsettled.Unread =
    IsAnswered was_told j means.Unread
IsWhy was_told was_unanswered j tries is_fault (unsettled.Kept fault) = is_fault fault
IsWhy was_told was_unanswered j tries is_fault unsettled.Memory = Unit {0}

-- the journal failed while it kept a reply that settles the number
abbrev pub IsFailed : (List ℕ → Heard → Type 0) → JournalValue → (failed : Type 0) → ℕ → KeepFault
    → Type 0
IsFailed was_told j failed gate fault =
    (reply : SettledReply) × IsSettledBy was_told j reply
    × IsFault failed (2 ^ 60 ≤ gate + length (line_of (entry.Settled (number_of j) reply)))
    ⊥ (λ _. ⊥) fault

-- the journal failed
abbrev pub is_kept : Unsettled → Bool
is_kept unsettled.Pending = false
is_kept unsettled.Reused = false
is_kept (unsettled.Ahead next) = false
is_kept unsettled.Unread = false
is_kept (unsettled.Kept fault) = true
is_kept unsettled.Memory = false

-- the journal is as before, or it has a reply that settles the number
abbrev pub IsSettledOrPending : (List ℕ → Heard → Type 0) → JournalValue → List ℕ → Type 0
IsSettledOrPending was_told j file =
    (journal_in file ≡ Some j)
    ⊎ ((reply : SettledReply) × IsSettledBy was_told j reply
    × (journal_in file ≡ Some (settles j reply)))

-- What came of one try.

-- something else was asked in the place of the wish that is pending
abbrev pub is_replaced : JournalValue → Bool
is_replaced j = unwrap_or (option_map (λ (a : Asked). is_some a.instead) j.pending) false

-- to the body that is pending, or to the wish although something else was asked
abbrev pub IsReused : (List ℕ → Heard → Type 0) → JournalValue → Bool → Type 0
IsReused was_told j is_late =
    (a : Asked) × (j.pending ≡ Some a) × IsTold was_told (message_of j a is_late) means.Reused

-- of one message
abbrev pub IsOnce : (List ℕ → Heard → Type 0) → (List ℕ → RetryReason → Type 0) → JournalValue
    → Bool → Tried → Type 0
IsOnce was_told was_unanswered j is_late (tried.Settled reply) = IsSettledBy was_told j reply
IsOnce was_told was_unanswered j is_late tried.Reused = IsReused was_told j is_late
IsOnce was_told was_unanswered j is_late (tried.Again why) = IsUnanswered was_told was_unanswered j

-- of each message that is asked for
abbrev pub IsFrom : (List ℕ → Heard → Type 0) → (List ℕ → RetryReason → Type 0) → JournalValue
    → Tried → Type 0
IsFrom was_told was_unanswered j (tried.Settled reply) = IsSettledBy was_told j reply
IsFrom was_told was_unanswered j tried.Reused = AreReused was_told j
IsFrom was_told was_unanswered j (tried.Again why) = IsUnanswered was_told was_unanswered j

-- what a reply is taken for
abbrev pub IsOf : Heard → Bool → Tried → Type 0
IsOf response is_late (tried.Settled reply) =
    (reply ≡ record { status = response.status; body = response.body; is_late = is_late })
    × (meaning_of response.status response.body ≡ means.Settled)
IsOf response is_late tried.Reused = meaning_of response.status response.body ≡ means.Reused
IsOf response is_late (tried.Again why) =
    (meaning_of response.status response.body ≡ means.Unavailable)
    ⊎ (meaning_of response.status response.body ≡ means.Foreign)

-- what a reply is an error of
abbrev pub IsWrong : Heard → Unsettled → Type 0
IsWrong response unsettled.Pending = ⊥
IsWrong response unsettled.Reused = ⊥
IsWrong response (unsettled.Ahead next) =
    meaning_of response.status response.body ≡ means.Ahead next
IsWrong response unsettled.Unread = meaning_of response.status response.body ≡ means.Unread
IsWrong response (unsettled.Kept fault) = ⊥
IsWrong response unsettled.Memory = Unit {0}

-- what a reply of each meaning comes to: it settles the number, or the wish goes out in its turn,
-- or the same is sent again, or it is an error that no try more would fix
abbrev pub taken_for : Meaning → Heard → Bool → Result Tried Unsettled
taken_for means.Settled response is_late =
    Ok (tried.Settled
    (record { status = response.status; body = response.body; is_late = is_late }))
taken_for means.Reused response is_late = Ok tried.Reused
taken_for means.Unavailable response is_late = Ok (tried.Again why.Unavailable)
taken_for means.Foreign response is_late = Ok (tried.Again why.Foreign)
taken_for (means.Ahead next) response is_late = Err (unsettled.Ahead next)
taken_for means.Unread response is_late = Err unsettled.Unread
