-- Delivery: a caller with a journal asks commands of the desk, over a network that loses, repeats
-- and delays. A crash of either end is no step: the caller keeps nothing but its journal, and the
-- desk nothing but its contents. A lost message never comes, and the caller never hears a lost
-- answer. If the desk answers 503, the message is lost, or its answer is.
use Rattle.std.specs.Prelude.{◌≡◌, ℕ, suc, ◌+◌, ◌≤◌, ◌==◌, Bool, true, false, if◌then◌else◌, List, [], ◌∷◌, ◌++◌, length, map, Option, Some, None, slice_get, ⊤}
use Rattle.canary_plan.specs.declared.command.Command.{Command}
use Rattle.canary_release.specs.declared.reply.Reply.{Reply}
use Rattle.canary_release.specs.declared.reply.ReplyStatus.{ReplyStatus}
use Rattle.canary_release.specs.declared.reply.ReplyStatus.TheVariants.{Accepted, Refused, Conflict, NotFound}
use Rattle.canary_once.specs.declared.book.Receipt.{Receipt}
use Rattle.canary_once.specs.declared.event.Request.{Request}
use Rattle.canary_once.specs.declared.event.Event.{Event}
use Rattle.canary_once.specs.declared.event.Event.TheVariants as event
use Rattle.canary_once.specs.Contents.{Contents, receipts_of}
use Rattle.canary_once.specs.Answers.{is_of, news_of, after, answer}
use Rattle.canary_client_laws.specs.Senders.{commands_of}

-- a command under a place of the journal, counted from 0
pub record Message : Type 0 where
  pub place : ℕ
  pub command : Command

-- a message that came, with the desk's answer to it
pub record Answered : Type 0 where
  pub place : ℕ
  pub command : Command
  pub reply : Reply

pub record World : Type 0 where
  -- what the desk contains, and each event that came to it, in order
  pub contents : Contents
  pub came : List Event
  -- the journal: under each number what the caller asked, and what it asked in its place
  pub script : List (List Command)
  -- the journal: under each number the command and the reply that the caller heard
  pub received : List Receipt
  -- each message that the caller ever sent, and each answer that the desk ever gave
  pub sent : List Message
  pub answered : List Answered

-- a journal in which nothing stands yet
abbrev pub begun : Contents → World
begun c = record { contents = c; came = []; script = []; received = []; sent = []; answered = [] }

pub data Step : Type 0 where
  -- the caller writes a command into its journal, unless one is pending
  Ask : (command : Command) → Step
  -- it writes another command under the number that is pending
  Instead : (command : Command) → Step
  -- it sends one of the commands under the number that is pending
  Send : (which : ℕ) → Step
  -- a message comes to the desk, for the first time or again, at this moment
  Comes : (which moment : ℕ) → Step
  -- an answer comes to the caller, for the first time or again
  Hears : (which : ℕ) → Step
  -- an event of somebody else: a request under another name, or a query
  Other : (e : Event) → Step

-- The caller.

-- one number is pending at most: the caller asked, and has not heard the reply
abbrev pub asks : World → Command → World
asks w command =
    if length w.script == length w.received
    then record w { script = w.script ++ ((command ∷ []) ∷ []) }
    else w

-- with one command more in the last of these lists
abbrev pub with_last : List (List Command) → Command → List (List Command)
with_last [] command = []
with_last (commands ∷ []) command = (commands ++ command ∷ []) ∷ []
with_last (commands ∷ next ∷ script) command = commands ∷ with_last (next ∷ script) command

abbrev pub asks_instead : World → Command → World
asks_instead w command =
    if length w.script == length w.received then w
    else record w { script = with_last w.script command }

-- one of the commands that are pending
abbrev pub one_of : Option (List Command) → ℕ → Option Command
one_of None which = None
one_of (Some commands) which = slice_get commands which

abbrev pub sends : World → Option Command → World
sends w None = w
sends w (Some command) =
    record w { sent = record { place = length w.received; command = command } ∷ w.sent }

-- a reply with this status says that its number is settled
abbrev pub settles : ReplyStatus → Bool
settles Accepted = true
settles Refused = true
settles Conflict = false
settles NotFound = false

abbrev pub notes : World → Answered → World
notes w a =
    if settles a.reply.status
    then record w { received = w.received ++ record { command = a.command; reply = a.reply } ∷ [] }
    else w

-- only an answer to the number that is pending is noted
abbrev pub hears : World → Option Answered → World
hears w None = w
hears w (Some a) = if a.place == length w.received then notes w a else w

-- The desk.

-- the request of a message: its caller had settled so many before its journal was begun
abbrev pub request_of : List ℕ → ℕ → ℕ → Message → Request
request_of caller settled moment m =
    record {
      moment = moment;
      caller = caller;
      number = settled + m.place + 1;
      command = m.command;
    }

abbrev pub comes : List ℕ → ℕ → World → Option Message → ℕ → World
comes caller settled w None moment = w
comes caller settled w (Some m) moment =
    let request = event.Request (request_of caller settled moment m) in
    record w {
      contents = after w.contents (request ∷ []);
      came = w.came ++ request ∷ [];
      answered = record {
        place = m.place;
        command = m.command;
        reply = answer w.contents [] request;
      } ∷ w.answered;
    }

abbrev pub is_own : List ℕ → Event → Bool
is_own caller (event.Request r) = is_of caller r
is_own caller (event.Query moment query) = false

-- What happens.

abbrev pub step_applied : List ℕ → ℕ → World → Step → World
step_applied caller settled w (Ask command) = asks w command
step_applied caller settled w (Instead command) = asks_instead w command
step_applied caller settled w (Send which) =
    sends w (one_of (slice_get w.script (length w.received)) which)
step_applied caller settled w (Comes which moment) =
    comes caller settled w (slice_get w.sent which) moment
step_applied caller settled w (Hears which) = hears w (slice_get w.answered which)
step_applied caller settled w (Other e) =
    if is_own caller e then w
    else record w { contents = after w.contents (e ∷ []); came = w.came ++ e ∷ [] }

abbrev pub runs : List ℕ → ℕ → World → List Step → World
runs caller settled w [] = w
runs caller settled w (s ∷ steps) = runs caller settled (step_applied caller settled w s) steps

-- What holds of it.

abbrev pub Among : Command → List Command → Type 0
Among command commands = (i : ℕ) × (slice_get commands i ≡ Some command)

-- under each number, in order, the command of its receipt is one that the caller asked under it
abbrev pub AreChosen : List Receipt → List (List Command) → Type 0
AreChosen [] script = ⊤
AreChosen (r ∷ receipts) [] = ⊥
AreChosen (r ∷ receipts) (commands ∷ script) =
    Among r.command commands × AreChosen receipts script

pub record IsDelivered (caller : List ℕ) (before : Contents) (w : World) : Type 0 where
  -- what the desk has settled of this caller since the journal began
  pub own : List Receipt
  pub settled : receipts_of w.contents caller ≡ receipts_of before caller ++ own
  -- the contents are those after all that came, of which these commands of the caller acted
  pub contents : w.contents ≡ after before w.came
  pub acted : commands_of caller (news_of before w.came) ≡ map (λ (r : Receipt). r.command) own
  -- the caller asked each of these, under its number: so each number acts once at most, in order
  pub chosen : AreChosen own w.script
  -- what the caller heard is what the desk keeps, from the first number on
  pub rest : List Receipt
  pub received : w.received ++ rest ≡ own
  -- one number is pending at most
  pub one_open : length w.script ≤ suc (length w.received)
  -- if no number is, all that the caller asked is settled, and it heard each reply
  pub done : length w.received ≡ length w.script → w.received ≡ own

-- whatever the network does, whatever others ask, and whenever either end crashes; the journal
-- begins with the number of requests that the desk has settled of the caller
abbrev pub Delivers : Type 0
Delivers =
    (caller : List ℕ) (before : Contents) (steps : List Step)
    → IsDelivered caller before
    (runs caller (length (receipts_of before caller)) (begun before) steps)

-- who asked one command under a number asked no other one under it
abbrev pub AsksNoOther : Type 0
AsksNoOther = (command asked : Command) → Among command (asked ∷ []) → command ≡ asked
