-- A journal of canary_client_journal as that of a caller over a network (Delivery): what stands in
-- it is what the world's caller asked and heard, and each of its entries is a step of that caller.
use Rattle.std.specs.Prelude.{◌≡◌, ℕ, ◌+◌, Bool, true, if◌then◌else◌, List, [], ◌∷◌, ◌++◌, length, map, Option, Some, None, unwrap_or, ⊤}
use Rattle.canary_plan.specs.declared.command.Command.{Command}
use Rattle.canary_release.specs.Replies.{status_code}
use Rattle.canary_once.specs.declared.book.Receipt.{Receipt}
use Rattle.canary_manifest.specs.Readings.{readable}
use Rattle.canary_manifest.specs.Commands.{body_reading}
use Rattle.canary_client_journal.specs.declared.entry.Wish.{Wish}
use Rattle.canary_client_journal.specs.declared.entry.Asked.{Asked}
use Rattle.canary_client_journal.specs.declared.entry.SettledNumber.{SettledNumber}
use Rattle.canary_client_journal.specs.declared.entry.SettledReply.{SettledReply}
use Rattle.canary_client_journal.specs.declared.entry.JournalEntry.TheVariants as entry
use Rattle.canary_client_journal.specs.Journals as journals
use Rattle.canary_client_journal.specs.Journals.{JournalValue, number_of, refusal_of, with_entry}
use Rattle.canary_client_laws.specs.Delivery.{World, Answered, begun, asks, asks_instead, hears, settles}
use Rattle.canary_once.specs.Contents.{Contents}

abbrev pub one_if_any : {A : Type 0} → Option A → List A
one_if_any None = []
one_if_any (Some x) = x ∷ []

-- the bodies that were asked under a number, in order
abbrev pub bodies_of : Asked → List (List ℕ)
bodies_of a = a.wish.body ∷ one_if_any a.instead

-- what was asked under each number
abbrev pub asked_in : JournalValue → List Asked
asked_in j = map (λ (k : SettledNumber). k.asked) j.kept ++ one_if_any j.pending

-- the body to which a reply is: a late one is to the wish, any other to what was asked last
abbrev pub replied_body : Asked → Bool → List ℕ
replied_body a is_late = if is_late then a.wish.body else unwrap_or a.instead a.wish.body

-- under each number, the desk reads the bodies as these commands
abbrev pub AreAsked : List Asked → List (List Command) → Type 0
AreAsked [] [] = ⊤
AreAsked [] (commands ∷ script) = ⊥
AreAsked (a ∷ asked) [] = ⊥
AreAsked (a ∷ asked) (commands ∷ script) =
    (map body_reading (bodies_of a) ≡ map readable commands) × AreAsked asked script

-- the reply is that of the desk to the command of one of the bodies
pub record IsHeard (a : Asked) (reply : SettledReply) (receipt : Receipt) : Type 0 where
  pub command : body_reading (replied_body a reply.is_late) ≡ readable receipt.command
  pub status : reply.status ≡ status_code receipt.reply.status
  pub body : reply.body ≡ receipt.reply.body

abbrev pub AreHeard : List SettledNumber → List Receipt → Type 0
AreHeard [] [] = ⊤
AreHeard [] (r ∷ receipts) = ⊥
AreHeard (k ∷ kept) [] = ⊥
AreHeard (k ∷ kept) (r ∷ receipts) = IsHeard k.asked k.reply r × AreHeard kept receipts

-- what stands in the journal is what the caller asked and heard
pub record IsJournalOf (w : World) (j : JournalValue) : Type 0 where
  pub asked : AreAsked (asked_in j) w.script
  pub received : AreHeard j.kept w.received

abbrev pub Begins : Type 0
Begins =
    (before : Contents) (caller : List ℕ) (settled : ℕ)
    → IsJournalOf (begun before) (journals.begun caller settled)

-- a wish, whose body the desk reads as the command, is asked under the caller's next number
abbrev pub Asks : Type 0
Asks =
    (w : World) (j : JournalValue) (number : ℕ) (wish : Wish) (command : Command)
    → IsJournalOf w j → refusal_of j (entry.Asked number wish) ≡ None
    → body_reading wish.body ≡ readable command
    → IsJournalOf (asks w command) (with_entry j (entry.Asked number wish))
    × (number ≡ j.before + length w.received + 1)

abbrev pub AsksInstead : Type 0
AsksInstead =
    (w : World) (j : JournalValue) (number : ℕ) (body : List ℕ) (command : Command)
    → IsJournalOf w j → refusal_of j (entry.Instead number body) ≡ None
    → body_reading body ≡ readable command
    → IsJournalOf (asks_instead w command) (with_entry j (entry.Instead number body))
    × (number ≡ j.before + length w.received + 1)

-- a reply that settles, to the number that is pending and to one of its bodies, is heard
abbrev pub Hears : Type 0
Hears =
    (w : World) (j : JournalValue) (number : ℕ) (a : Asked)
    (reply : SettledReply) (answered : Answered)
    → IsJournalOf w j → refusal_of j (entry.Settled number reply) ≡ None
    → j.pending ≡ Some a → answered.place ≡ length w.received
    → IsHeard a reply (record { command = answered.command; reply = answered.reply })
    → settles answered.reply.status ≡ true
    → IsJournalOf (hears w (Some answered)) (with_entry j (entry.Settled number reply))
    × (number ≡ j.before + length w.received + 1)
