-- Sending by canary_client_journal as steps of the caller of Delivery: each message that is asked
-- for is one of the commands that are pending, and a reply that settles is heard.
use Rattle.std.specs.Prelude.{◌≡◌, ℕ, ◌+◌, Bool, true, List, length, Some, slice_get, is_some}
use Rattle.canary_plan.specs.declared.command.Command.{Command}
use Rattle.canary_release.specs.Replies.{status_code}
use Rattle.canary_manifest.specs.Readings.{readable}
use Rattle.canary_manifest.specs.Commands.{body_reading}
use Rattle.canary_client_journal.specs.declared.entry.Asked.{Asked}
use Rattle.canary_client_journal.specs.declared.entry.SettledReply.{SettledReply}
use Rattle.canary_client_journal.specs.declared.meaning.Meaning.TheVariants as means
use Rattle.canary_client_journal.specs.Journals as journals
use Rattle.canary_client_journal.specs.Journals.{JournalValue}
use Rattle.canary_client_journal.specs.Meanings.{meaning_of}
use Rattle.canary_client_journal.specs.Messages.{request_text}
use Rattle.canary_client_journal.specs.Sending.{body_of, message_of}
use Rattle.canary_client_laws.specs.Delivery.{World, Answered, one_of, step_applied}
use Rattle.canary_client_laws.specs.Delivery as delivery
use Rattle.canary_client_laws.specs.Journaling.{IsJournalOf}

-- the message is what the step `Send which` sends: a command that is pending, under the caller's
-- next number, as a body that the desk reads so
pub record IsRequest (w : World) (j : JournalValue) (text message : List ℕ) : Type 0 where
  pub which : ℕ
  pub command : Command
  pub pending : one_of (slice_get w.script (length w.received)) which ≡ Some command
  pub read : body_reading text ≡ readable command
  pub bytes : message ≡ request_text j.caller (j.before + length w.received + 1) text

-- each message of what is pending
abbrev pub Sends : Type 0
Sends =
    (w : World) (j : JournalValue) (a : Asked) (is_late : Bool)
    → IsJournalOf w j → j.pending ≡ Some a
    → IsRequest w j (body_of a is_late) (message_of j a is_late)

-- the reply is an answer of the desk, to the message of this body under the pending number
pub record IsAnswer (w : World) (text : List ℕ) (reply : SettledReply) (which : ℕ) : Type 0 where
  pub answered : Answered
  pub given : slice_get w.answered which ≡ Some answered
  pub place : answered.place ≡ length w.received
  pub command : body_reading text ≡ readable answered.command
  pub status : reply.status ≡ status_code answered.reply.status
  pub body : reply.body ≡ answered.reply.body

-- a reply that settles is what the step `Hears which` hears
abbrev pub Settles : Type 0
Settles =
    (w : World) (j : JournalValue) (a : Asked) (reply : SettledReply) (which : ℕ)
    → IsJournalOf w j → j.pending ≡ Some a
    → (reply.is_late ≡ true → is_some a.instead ≡ true)
    → meaning_of reply.status reply.body ≡ means.Settled
    → IsAnswer w (body_of a reply.is_late) reply which
    → IsJournalOf (step_applied j.caller j.before w (delivery.Hears which))
    (journals.settles j reply)
