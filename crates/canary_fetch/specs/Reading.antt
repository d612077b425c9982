-- A reply that comes in pieces.
use Rattle.std.specs.Prelude.{◌≡◌, ◌≢◌, ℕ, ⊤, List, [], ◌++◌}
use Rattle.http1.specs.Body.{Body}
use Rattle.http1.specs.declared.decode.Decoder.{Decoder}
use Rattle.http1.specs.declared.decode.Decoder.TheVariants.{UntilClose}
use Rattle.http1.specs.Decoder.{Completes}
use Rattle.canary_fetch.specs.declared.fault.ExchangeFault.{ExchangeFault}
use Rattle.canary_fetch.specs.declared.fault.ExchangeFault.TheVariants.{Memory}
use Rattle.canary_fetch.specs.declared.reply.Incoming.{Incoming}
use Rattle.canary_fetch.specs.declared.reply.HttpReply.{HttpReply}
use Rattle.canary_fetch.specs.declared.reply.ReplyStage.{ReplyStage}
use Rattle.canary_fetch.specs.declared.reply.ReplyStage.TheVariants.{Head, Body as Within}
use Rattle.canary_fetch.specs.declared.reply.ParseProgress.{ParseProgress}
use Rattle.canary_fetch.specs.declared.reply.ParseProgress.TheVariants.{Goes, Waits, Ends}
use Rattle.canary_fetch.specs.Unreads.{bytes_unread}
use Rattle.canary_fetch.specs.Replies.{Heard, response, IsSmall, ReadsReply, NeverReplies}

abbrev pub reply_heard : HttpReply → Heard
reply_heard r = response r.status r.body.items

-- the stream begins with a reply
abbrev pub BeginsWith : List ℕ → Heard → Type 0
BeginsWith stream reply = (rest : List ℕ) × ReadsReply stream reply rest

-- what was kept of the body, and what the decoder makes of the stream, make this reply
pub record Remains (status : ℕ) (d : Decoder) (kept stream : List ℕ) (reply : Heard)
    (rest : List ℕ) : Type 0 where
  pub body : Body
  pub completes : Completes d stream body rest
  pub is : reply ≡ response status (kept ++ body.bytes)
  pub small : IsSmall reply.body body

abbrev pub Awaits : ReplyStage → List ℕ → List ℕ → Heard → List ℕ → Type 0
Awaits Head kept stream reply rest = ReadsReply stream reply rest
Awaits (Within status d) kept stream reply rest = Remains status d kept stream reply rest

-- nothing of a body is kept before its head was read
abbrev pub IsFresh : ReplyStage → List ℕ → Type 0
IsFresh Head kept = kept ≡ []
IsFresh (Within status d) kept = ⊤

-- these bytes came. Whatever comes more: what is kept and unread makes the reply that all of it
-- begins with, and no other
pub record IsReadingBy (came : List ℕ) (stage : ReplyStage) (kept unread : List ℕ) : Type 0 where
  pub fresh : IsFresh stage kept
  pub sound : (more : List ℕ) (reply : Heard) (rest : List ℕ)
      → Awaits stage kept (unread ++ more) reply rest → ReadsReply (came ++ more) reply rest
  pub whole : (more : List ℕ) (reply : Heard) (rest : List ℕ)
      → ReadsReply (came ++ more) reply rest → Awaits stage kept (unread ++ more) reply rest

abbrev pub IsReading : List ℕ → Incoming → Type 0
IsReading came r = IsReadingBy came r.stage r.body.items (bytes_unread r.unread)

-- the body that comes ends with the connection
abbrev pub IsOpen : ReplyStage → Type 0
IsOpen Head = ⊥
IsOpen (Within status d) = d ≡ UntilClose

-- no reply is whole, but for one whose body ends with the connection
abbrev pub IsPart : List ℕ → ReplyStage → Type 0
IsPart came stage = (reply : Heard) (rest : List ℕ) → ReadsReply came reply rest → IsOpen stage

-- these bytes came, and no reply is whole
pub record AwaitsMore (came : List ℕ) (r : Incoming) : Type 0 where
  pub reading : IsReading came r
  pub part : IsPart came r.stage

-- what a step came to
abbrev pub StepsTo : List ℕ → Incoming → ParseProgress → Type 0
StepsTo came r Goes = IsReading came r
StepsTo came r Waits = AwaitsMore came r
StepsTo came r (Ends status) = BeginsWith came (response status r.body.items)

-- a fault that is no refused allocation is that of the bytes
abbrev pub IsRefusal : List ℕ → ExchangeFault → Type 0
IsRefusal came fault = fault ≢ Memory → NeverReplies came
