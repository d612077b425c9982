-- A conversation with one client, turn by turn.
use Rattle.std.specs.Prelude.{◌≡◌, ◌≢◌, ℕ, ◌<◌, true, false, List, [], ◌++◌, length, flat_map}
use Rattle.std.specs.Prelude.{if◌then◌else◌}
use Rattle.std.specs.List.{list_all}
use Rattle.std.specs.Io.KnownBytes.{Appends, Consumes, IsAtEnd}
use Rattle.canary_wire.specs.declared.conversation.ConversationState.{ConversationState}
use Rattle.canary_wire.specs.declared.conversation.ConversationState.TheVariants.{Open, Over, Broken}
use Rattle.canary_wire.specs.declared.conversation.StepResult.{StepResult}
use Rattle.canary_wire.specs.declared.conversation.StepResult.TheVariants.{Answered, Waits, Closed, Broke}
use Rattle.canary_wire.specs.declared.conversation.Wants.{Wants}
use Rattle.canary_wire.specs.declared.conversation.Wants.TheVariants as wants
use Rattle.canary_wire.specs.declared.conversation.Cause.{Cause}
use Rattle.canary_wire.specs.declared.conversation.Cause.TheVariants as cause
use Rattle.canary_wire.specs.Cut.{is_newline, Begins, IsUnfinished, Ending, IsCut}
use Rattle.canary_base.specs.Writes.{Known}
use Rattle.canary_once.specs.Messages.{messages_of, DeskState, HandledAll}
use Rattle.canary_wire.specs.Dispositions.{HttpExchange, IsExchange, reply_bytes}
use Rattle.canary_wire.specs.Serving.{last_reply, IsShut, IsCutShort}
use Rattle.canary_wire.specs.Serving.{Answers, AnswersAll, AnswersUntil}

-- what a client sent that is not yet answered, what is still to be written to it, and where the
-- conversation stands
pub record Talk : Type 0 where
  pub held : List ℕ
  pub unsent : List ℕ
  pub stage : ConversationState

abbrev pub talk : List ℕ → List ℕ → ConversationState → Talk
talk held unsent stage = record { held = held; unsent = unsent; stage = stage }

abbrev pub begun : Talk
begun = talk [] [] Open

-- ---- in order

-- of the bytes that were read these exchanges were held, and what was written with what is owed are
-- their replies, in order: as far as messages are whole, up to the end with its last reply, or up
-- to the message for whose reply there was no memory
pub data IsInOrder (read written : List ℕ) (xs : List HttpExchange) (held unsent : List ℕ)
    : ConversationState → Type 0 where
  so_far : Begins read (messages_of xs) held → written ++ unsent ≡ flat_map reply_bytes xs
      → IsInOrder read written xs held unsent Open
  to_the_end : (end : Ending) → IsShut end → IsCut read (messages_of xs) end
      → written ++ unsent ≡ flat_map reply_bytes xs ++ last_reply end
      → IsInOrder read written xs held unsent Over
  broken_off : (text : List ℕ) → IsCutShort read text xs → written ++ unsent ≡ text
      → IsInOrder read written xs held unsent Broken

abbrev pub InOrder : List ℕ → List ℕ → List HttpExchange → Talk → Type 0
InOrder read written xs t = IsInOrder read written xs t.held t.unsent t.stage

-- with these further bytes read and written and exchanges held a conversation stays in order,
-- whatever was said in it before
abbrev pub KeepsOrder : Talk → Talk → List ℕ → List ℕ → List HttpExchange → Type 0
KeepsOrder old new got put held =
    (read written : List ℕ) (xs : List HttpExchange) → InOrder read written xs old
    → InOrder (read ++ got) (written ++ put) (xs ++ held) new

-- a turn: bytes were read and written, and exchanges held
pub record TakesTurn (r new_r w new_w : Known) (p q : DeskState) (old new : Talk) : Type 0 where
  pub got : List ℕ
  pub put : List ℕ
  pub held : List HttpExchange
  pub read : Consumes r new_r got
  pub written : Appends w new_w put
  pub went : HandledAll IsExchange p q held
  pub order : KeepsOrder old new got put held

-- ---- what it waits for

-- it is open, nothing is owed, and no whole message is held
abbrev pub IsListening : Talk → Type 0
IsListening t = (t.stage ≡ Open) × (t.unsent ≡ []) × IsUnfinished t.held

-- the last reply is owed or was written, or there was no memory for one
abbrev pub IsOver : Talk → Type 0
IsOver t = t.stage ≢ Open

-- why a conversation ended whose input ended with these bytes after the last message
abbrev pub end_cause : List ℕ → Cause
end_cause rest = if list_all is_newline rest then cause.EndOfInput else cause.Truncated

-- the input ended, the reader failed, the writer did, or memory ran out
abbrev pub IsCause : Known → Talk → Cause → Type 0
IsCause r t cause.EndOfInput =
    IsListening t × IsAtEnd r × (list_all is_newline t.held ≡ true)
IsCause r t cause.Truncated =
    IsListening t × IsAtEnd r × (list_all is_newline t.held ≡ false)
IsCause r t cause.Read = IsListening t
IsCause r t cause.Write = 0 < length t.unsent
IsCause r t cause.Memory = (t.stage ≡ Broken) × (t.unsent ≡ [])

-- what a conversation waits for, with what its reader has left
abbrev pub Awaits : Known → Talk → Wants → Type 0
Awaits r t wants.Read = IsListening t
Awaits r t wants.Write = 0 < length t.unsent
Awaits r t wants.Yield = (t.stage ≡ Open) × (t.unsent ≡ [])
Awaits r t wants.Drain = (t.stage ≡ Over) × (t.unsent ≡ [])
Awaits r t (wants.Close cause) = IsCause r t cause

-- ---- the steps of a turn

-- what was read is after what was read before
pub record Receives (r new_r : Known) (old new : Talk) : Type 0 where
  pub got : List ℕ
  pub read : Consumes r new_r got
  pub order : KeepsOrder old new got [] []

-- what was written is after what was written before
pub record Sends (w new_w : Known) (old new : Talk) : Type 0 where
  pub put : List ℕ
  pub written : Appends w new_w put
  pub order : KeepsOrder old new [] put []
  pub same : (new.held ≡ old.held) × (new.stage ≡ old.stage)

-- further exchanges were held
pub record AnswersMore (p q : DeskState) (old new : Talk) : Type 0 where
  pub held : List HttpExchange
  pub went : HandledAll IsExchange p q held
  pub order : KeepsOrder old new [] [] held

-- and more was written
abbrev pub Replies : Known → Known → DeskState → DeskState → Talk → Talk → Type 0
Replies w new_w p q old new =
    (mid : Talk) × AnswersMore p q old mid × Sends w new_w mid new

-- where a conversation stands after a step
abbrev pub StandsAt : Talk → StepResult → Type 0
StandsAt t Answered = t.stage ≡ Open
StandsAt t Waits = (t.stage ≡ Open) × IsUnfinished t.held
StandsAt t Closed = t.stage ≡ Over
StandsAt t Broke = t.stage ≡ Broken

-- of held bytes the message that stands first was answered, or what does was rejected, or there is
-- no whole one, or the writer failed
abbrev pub AnswersNext : Known → Known → DeskState → DeskState → List ℕ → List ℕ → StepResult
    → Type 0
AnswersNext w new_w p q held rest Answered = Answers w new_w p q held rest
AnswersNext w new_w p q held rest Waits = Answers w new_w p q held rest × IsUnfinished rest
AnswersNext w new_w p q held rest Closed = AnswersAll w new_w p q held
AnswersNext w new_w p q held rest Broke = AnswersUntil w new_w p q held
