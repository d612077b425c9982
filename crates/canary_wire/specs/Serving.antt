-- What is served of a stream.
use Rattle.std.specs.Prelude.{◌≡◌, ℕ, ◌<◌, ◌≤◌, Bool, true, List, [], ◌∷◌, ◌++◌, length, flat_map, Ok, Err, Result, if◌then◌else◌}
use Rattle.std.specs.List.{list_all}
use Rattle.std.specs.Io.KnownBytes.{Appends, Consumes, IsAtEnd}
use Rattle.canary_wire.specs.declared.rejection.Rejection.{Rejection}
use Rattle.canary_wire.specs.declared.reply.Response.TheVariants.{Rejected}
use Rattle.canary_wire.specs.declared.serve.Ended.{Ended}
use Rattle.canary_wire.specs.declared.serve.Ended.TheVariants.{EndOfInput, Closed, Truncated, TurnsSpent}
use Rattle.canary_wire.specs.declared.serve.Turn.{Turn}
use Rattle.canary_wire.specs.declared.serve.Turn.TheVariants.{Continues, Ends}
use Rattle.canary_wire.specs.declared.serve.TurnFault.{TurnFault}
use Rattle.canary_wire.specs.declared.serve.TurnFault.TheVariants.{Read, Write}
use Rattle.canary_base.specs.declared.writing.WriteFault.{WriteFault}
use Rattle.canary_wire.specs.Cut.{is_newline, message_bytes, IsMessage, IsRejected, IsUnfinished, Begins, Ending, idle, cut_off, closing, rejecting, IsCut}
use Rattle.canary_wire.specs.ReplyTexts.{reply_text}
use Rattle.canary_base.specs.Writes.{Known}
use Rattle.canary_once.specs.Messages.{messages_of, DeskState, AnsweredInOrder, HandledAll}
use Rattle.canary_wire.specs.Dispositions.{HttpExchange, IsExchange, reply_bytes}

-- how a stream ends whose input ends with these bytes after the last message
abbrev pub end_of : List ℕ → Ended
end_of rest = if list_all is_newline rest then EndOfInput else Truncated

-- the reply of the rejection that ends the stream
abbrev pub last_reply : Ending → List ℕ
last_reply idle = []
last_reply cut_off = []
last_reply closing = []
last_reply (rejecting r bare) = reply_text (Rejected r) true bare

-- more bytes might have gone on
abbrev pub IsOpen : Ending → Type 0
IsOpen idle = Unit {0}
IsOpen cut_off = Unit {0}
IsOpen closing = ⊥
IsOpen (rejecting r bare) = ⊥

-- a message or a rejection ended the stream
abbrev pub IsShut : Ending → Type 0
IsShut idle = ⊥
IsShut cut_off = ⊥
IsShut closing = Unit {0}
IsShut (rejecting r bare) = Unit {0}

-- how the serving ended, by how the cutting of the bytes that were read ended, and what the reader
-- has left
abbrev pub EndsAs : List ℕ → Ending → Known → Ended → Type 0
EndsAs bytes end left EndOfInput = (end ≡ idle) × IsAtEnd left
EndsAs bytes end left Truncated = (end ≡ cut_off) × IsAtEnd left
EndsAs bytes end left Closed = IsShut end
EndsAs bytes end left TurnsSpent = IsOpen end × (1000000000 ≤ length bytes)

-- (here `r` is what the reader has left, `w` what the writer holds)
-- the bytes that were read are cut into messages, and the bytes that were written are the replies
-- to these, in order, and then that of the rejection that ends the stream
pub record Serves (r new_r w new_w : Known) (old new : DeskState) (bytes : List ℕ)
    (end : Ending) : Type 0 where
  pub exchanges : List HttpExchange
  pub read : Consumes r new_r bytes
  pub cut : IsCut bytes (messages_of exchanges) end
  pub holds : AnsweredInOrder IsExchange old new exchanges
  pub written : Appends w new_w (flat_map reply_bytes exchanges ++ last_reply end)

abbrev pub ServesTo : Known → Known → Known → Known → DeskState → DeskState → Ended → Type 0
ServesTo r new_r w new_w old new ended =
    (bytes : List ℕ) × (end : Ending) × EndsAs bytes end new_r ended
    × Serves r new_r w new_w old new bytes end

-- all that was read was answered, up to where more bytes might have gone on
abbrev pub ServesSome : Known → Known → Known → Known → DeskState → DeskState → Type 0
ServesSome r new_r w new_w old new =
    (bytes : List ℕ) × (end : Ending) × IsOpen end × Serves r new_r w new_w old new bytes end

-- the first bytes of a text, and not all of them
pub record IsProperPrefix (text front : List ℕ) : Type 0 where
  pub back : List ℕ
  pub parts : text ≡ front ++ back
  pub short : 0 < length back

-- these exchanges were held, and in the midst of the last one's reply, or of the rejection's after
-- it, the writer failed
pub data IsCutShort (bytes text : List ℕ) : List HttpExchange → Type 0 where
  in_reply : (xs : List HttpExchange) (last : HttpExchange) (rest front : List ℕ)
      → Begins bytes (messages_of xs) (message_bytes last.message ++ rest) → IsMessage last.message
      → IsProperPrefix (reply_bytes last) front → text ≡ flat_map reply_bytes xs ++ front
      → IsCutShort bytes text (xs ++ last ∷ [])
  in_rejection : (xs : List HttpExchange) (rest front : List ℕ) (r : Rejection) (bare : Bool)
      → Begins bytes (messages_of xs) rest → IsRejected rest r bare
      → IsProperPrefix (last_reply (rejecting r bare)) front
      → text ≡ flat_map reply_bytes xs ++ front → IsCutShort bytes text xs

-- the writer failed: what went out are the first bytes of the replies, and the last message is the
-- one whose reply did not go out whole
pub record ServesUntil (r new_r w new_w : Known) (old new : DeskState) : Type 0 where
  pub bytes : List ℕ
  pub text : List ℕ
  pub exchanges : List HttpExchange
  pub read : Consumes r new_r bytes
  pub cut : IsCutShort bytes text exchanges
  pub holds : AnsweredInOrder IsExchange old new exchanges
  pub written : Appends w new_w text

abbrev pub TurnsTo : Known → Known → Known → Known → DeskState → DeskState → Result Ended TurnFault
    → Type 0
TurnsTo r new_r w new_w old new (Ok ended) = ServesTo r new_r w new_w old new ended
TurnsTo r new_r w new_w old new (Err Read) = ServesSome r new_r w new_w old new
TurnsTo r new_r w new_w old new (Err Write) = ServesUntil r new_r w new_w old new

-- ---- step by step

-- bytes were answered as far as these that are held
pub record IsSoFar (r now_r w now_w : Known) (old now : DeskState) (turns : ℕ)
    (held : List ℕ) : Type 0 where
  pub bytes : List ℕ
  pub exchanges : List HttpExchange
  pub read : Consumes r now_r bytes
  pub begins : Begins bytes (messages_of exchanges) held
  pub unfinished : IsUnfinished held
  pub went : HandledAll IsExchange old now exchanges
  pub written : Appends w now_w (flat_map reply_bytes exchanges)
  pub many : turns ≤ length bytes

-- the messages that bytes begin with were answered
pub record Answers (w new_w : Known) (old new : DeskState) (bytes rest : List ℕ) : Type 0 where
  pub exchanges : List HttpExchange
  pub begins : Begins bytes (messages_of exchanges) rest
  pub went : HandledAll IsExchange old new exchanges
  pub written : Appends w new_w (flat_map reply_bytes exchanges)

-- and the stream ended
pub record AnswersAll (w new_w : Known) (old new : DeskState) (bytes : List ℕ) : Type 0 where
  pub exchanges : List HttpExchange
  pub end : Ending
  pub shut : IsShut end
  pub cut : IsCut bytes (messages_of exchanges) end
  pub went : HandledAll IsExchange old new exchanges
  pub written : Appends w new_w (flat_map reply_bytes exchanges ++ last_reply end)

-- or the writer failed
pub record AnswersUntil (w new_w : Known) (old new : DeskState) (bytes : List ℕ) : Type 0 where
  pub text : List ℕ
  pub exchanges : List HttpExchange
  pub cut : IsCutShort bytes text exchanges
  pub went : HandledAll IsExchange old new exchanges
  pub written : Appends w new_w text

-- what became of held bytes
abbrev pub AnswersHeld : Known → Known → DeskState → DeskState → List ℕ → List ℕ
    → Result Turn WriteFault
    → Type 0
AnswersHeld w new_w old new held rest (Ok Continues) =
    Answers w new_w old new held rest × IsUnfinished rest
AnswersHeld w new_w old new held rest (Ok Ends) = AnswersAll w new_w old new held
AnswersHeld w new_w old new held rest (Err fault) = AnswersUntil w new_w old new held

-- the text that ends the stream went out, or the writer failed in its midst
abbrev pub RejectsAll : Known → Known → List ℕ → Result Turn WriteFault → Type 0
RejectsAll w new_w text (Ok Continues) = ⊥
RejectsAll w new_w text (Ok Ends) = Appends w new_w text
RejectsAll w new_w text (Err fault) =
    (front : List ℕ) × IsProperPrefix text front × Appends w new_w front
