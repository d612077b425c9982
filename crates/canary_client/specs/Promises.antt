-- What a call of `do` promises: it shows the reply of what was asked, under its number, and the
-- journal has that reply before anything is shown.
use Rattle.std.specs.Prelude.{◌≡◌, ◌⊎◌, ◌+◌, ℕ, Bool, true, false, List, [], ◌∷◌, ◌++◌, Option, Some, None, slice_get}
use Rattle.canary_plan.specs.declared.command.Command.{Command}
use Rattle.canary_canonical.specs.Texts.{command_text}
use Rattle.canary_manifest.specs.Commands.{body_reading}
use Rattle.canary_manifest.specs.Readings.{readable}
use Rattle.canary_shown.specs.Showing.{shown}
use Rattle.canary_shown.specs.declared.text.TextKind.TheVariants.{Json}
use Rattle.canary_client_journal.specs.declared.entry.Asked.{Asked}
use Rattle.canary_client_journal.specs.declared.entry.SettledNumber.{SettledNumber}
use Rattle.canary_client_journal.specs.declared.entry.Wish.{Wish}
use Rattle.canary_client_journal.specs.declared.meaning.Meaning.TheVariants.{Settled}
use Rattle.canary_client_journal.specs.Journals.{JournalValue, asks, asks_instead}
use Rattle.canary_client_journal.specs.Meanings.{meaning_of}
use Rattle.canary_client_journal.specs.declared.network.Heard.{Heard}
use Rattle.canary_client_journal.specs.Messages.{request_text, query_text}
use Rattle.canary_client_journal.specs.Sending.{body_of, IsAskedBy}
use Rattle.canary_client.specs.Beginning.{IsSettledSo}
use Rattle.canary_client.specs.declared.ask.SettledAt.{SettledAt}
use Rattle.canary_client.specs.declared.wish.Asking.{Asking}
use Rattle.canary_client.specs.declared.wish.Asking.TheVariants as asking

-- What was asked.

-- what it means, by which it is known again
abbrev pub intent_of : Asking → List ℕ
intent_of (asking.Command intent body) = intent
intent_of (asking.Report intent measured) = intent

-- a body means this: it is read as the command with this canonical text
abbrev pub Means : List ℕ → List ℕ → Type 0
Means intent body = (c : Command) × (body_reading body ≡ readable c) × (command_text c ≡ intent)

-- a body asks for it: its own, or one that means the same; a report is asked in no other place
abbrev pub AsksFor : Asking → List ℕ → Type 0
AsksFor (asking.Command intent own) body = (body ≡ own) ⊎ Means intent body
AsksFor (asking.Report intent measured) body = ⊥

-- a number was asked for it: the wish means it and has its key; or, if it is not the wish, what was
-- asked in the place of one asks for it
abbrev pub IsFor : Asking → Option (List ℕ) → Bool → Asked → Type 0
IsFor what key true a = (a.wish.intent ≡ intent_of what) × (a.wish.key ≡ key)
IsFor what key false a = (body : List ℕ) × (a.instead ≡ Some body) × AsksFor what body

-- Where its reply stands.

-- the desk answered so to a message under the number of this place
pub record IsReplyAt (was_told : List ℕ → Heard → Type 0) (j : JournalValue) (place : ℕ)
    (k : SettledNumber) : Type 0 where
  pub told : was_told
      (request_text j.caller (j.before + place + 1) (body_of k.asked k.reply.is_late))
      (record { status = k.reply.status; body = k.reply.body })
  pub meaning : meaning_of k.reply.status k.reply.body ≡ Settled

-- at this place the journal has what was asked and its reply: since before, or the desk gave it now
pub record IsSettledAt (was_told : List ℕ → Heard → Type 0) (what : Asking)
    (key : Option (List ℕ)) (old new : JournalValue) (at : SettledAt) : Type 0 where
  pub kept : SettledNumber
  pub there : slice_get new.kept at.place ≡ Some kept
  pub asked : IsFor what key at.is_wish kept.asked
  pub reply : (slice_get old.kept at.place ≡ Some kept) ⊎ IsReplyAt was_told new at.place kept

-- a reply as it is shown where no person reads: one line, the body with its marks escaped
abbrev pub reply_line : SettledNumber → List ℕ
reply_line k = shown Json k.reply.body ++ 10 ∷ []

-- What is sent.

-- a query, which changes nothing
abbrev pub IsQuery : List ℕ → Type 0
IsQuery m = (path : List ℕ) × (m ≡ query_text path)

-- the body that is sent: a command's own, and for a report the one that is made of it now
abbrev pub body_for : Asking → List ℕ → List ℕ
body_for (asking.Command intent own) made = own
body_for (asking.Report intent measured) made = made

-- the wish of what is asked, under this key
pub record IsWishFor (what : Asking) (key : Option (List ℕ)) (wish : Wish) : Type 0 where
  pub means : wish.intent ≡ intent_of what
  pub under : wish.key ≡ key
  pub sends : wish.body ≡ body_for what wish.body

-- a query, or the message of the wish under the journal's next number
abbrev pub IsSentAnew : (List ℕ → Heard → Type 0) → Asking → Option (List ℕ) → JournalValue
    → List ℕ → Type 0
IsSentAnew was_told what key j m =
    IsQuery m
    ⊎ ((wish : Wish) × IsWishFor what key wish × IsAskedBy was_told (asks j wish) m)

-- a message of a call: one of what was pending before it; one of what is asked, if nothing was, or
-- once that is settled; or one of what is asked in the place of what is pending
abbrev pub IsSentFor : (List ℕ → Heard → Type 0) → Asking → Option (List ℕ) → JournalValue → List ℕ
    → Type 0
IsSentFor was_told what key j m =
    IsAskedBy was_told j m
    ⊎ (((j.pending ≡ None) × IsSentAnew was_told what key j m)
    ⊎ (((now : JournalValue) × IsSettledSo was_told j now × IsSentAnew was_told what key now m)
    ⊎ ((body : List ℕ) × AsksFor what body × IsAskedBy was_told (asks_instead j body) m)))
