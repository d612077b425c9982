-- A message over HTTP, and what comes of it.
use Rattle.std.specs.Prelude.{◌≡◌, ◌⊎◌, ℕ, List, Ok, Err}
use Rattle.canary_plan.specs.declared.command.Command.{Command}
use Rattle.canary_once.specs.declared.event.Event.TheVariants as event
use Rattle.canary_once.specs.Single.{request_of}
use Rattle.canary_once.specs.Messages.{Disposition, rejected, no_memory, answered, Exchange}
use Rattle.canary_wire.specs.declared.rejection.Rejection.{Rejection}
use Rattle.canary_wire.specs.declared.rejection.Rejection.TheVariants.{Unsupported, Unreadable}
use Rattle.canary_wire.specs.declared.reply.Response.{Response}
use Rattle.canary_wire.specs.declared.reply.Response.TheVariants.{Rejected, NoMemory, Answered}
use Rattle.canary_wire.specs.declared.routes.Address.{Address}
use Rattle.canary_wire.specs.declared.routes.Wanted.TheVariants as asked
use Rattle.canary_manifest.specs.Readings.{unsupported, unreadable, readable}
use Rattle.canary_manifest.specs.Commands.{body_reading}
use Rattle.canary_wire.specs.Heads.{closes, is_bare}
use Rattle.canary_wire.specs.Cut.{Message}
use Rattle.canary_wire.specs.ReplyTexts.{reply_text}
use Rattle.canary_wire.specs.Routes.{IsAsked}

-- ---- what comes of a message

abbrev pub HttpDisposition : Type 0
HttpDisposition = Disposition Rejection

-- what its reply says
abbrev pub response_of : HttpDisposition → Response
response_of (rejected r) = Rejected r
response_of no_memory = NoMemory
response_of (answered event answer) = Answered answer

-- a body is no command, and is rejected so
abbrev pub IsUnread : List ℕ → Rejection → Type 0
IsUnread body Unsupported = body_reading body ≡ unsupported
IsUnread body Unreadable = body_reading body ≡ unreadable
IsUnread body _ = ⊥

-- a method and a target are a request of this caller, under this number
abbrev pub IsRequest : List ℕ → List ℕ → Address → Type 0
IsRequest method target a = IsAsked method target (Ok (asked.Request a))

-- what comes of a method, a target and a body at a moment: the first rejection that holds, or the
-- request that they are, or the query, of which the body says nothing
abbrev pub IsDisposition : List ℕ → List ℕ → List ℕ → ℕ → HttpDisposition → Type 0
IsDisposition method target body moment (rejected r) =
    IsAsked method target (Err r) ⊎ ((a : Address) × IsRequest method target a × IsUnread body r)
IsDisposition method target body moment no_memory = (a : Address) × IsRequest method target a
IsDisposition method target body moment (answered (event.Request request) answer) =
    (a : Address) × (command : Command) × IsRequest method target a
    × (body_reading body ≡ readable command)
    × (request ≡ request_of moment a.caller a.number command)
IsDisposition method target body moment (answered (event.Query at query) answer) =
    IsAsked method target (Ok (asked.Query query)) × (at ≡ moment)

-- ---- exchanges

-- a message, the moment at which it was whole, and what came of it
abbrev pub HttpExchange : Type 0
HttpExchange = Exchange Message Rejection

abbrev pub IsExchange : HttpExchange → Type 0
IsExchange x =
    IsDisposition x.message.head.method x.message.head.target x.message.body x.moment x.disposition

abbrev pub reply_bytes : HttpExchange → List ℕ
reply_bytes x =
    reply_text (response_of x.disposition) (closes x.message.head) (is_bare x.message.head)
