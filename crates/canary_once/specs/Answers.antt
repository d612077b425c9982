-- Once and in order: the answers to a list of events, and the contents after them, by the small
-- machine on the settled requests alone, each once.
use Rattle.std.specs.Prelude.{ℕ, ◌+◌, ◌==◌, nat_lt, Bool, if◌then◌else◌, List, [], ◌∷◌, ◌++◌, length, map, filter, Option, Some, None, codes, decimal}
use Rattle.std.specs.Str.{bytes_eq}
use Rattle.canary_plan.specs.declared.command.Command.{Command}
use Rattle.canary_plan.specs.Commands.{same_command}
use Rattle.canary_release.specs.declared.reply.Reply.{Reply}
use Rattle.canary_release.specs.declared.reply.ReplyStatus.TheVariants.{Conflict}
use Rattle.canary_release.specs.Replies.{code_alone}
use Rattle.canary_release.specs.Desks.{apply, machine}
use Rattle.canary_once.specs.declared.book.Receipt.{Receipt}
use Rattle.canary_once.specs.declared.event.Request.{Request}
use Rattle.canary_once.specs.declared.event.Event.{Event}
use Rattle.canary_once.specs.declared.event.Event.TheVariants as event
use Rattle.canary_once.specs.declared.event.Answer.{Answer}
use Rattle.canary_once.specs.declared.event.Answer.TheVariants.{Replied, Unavailable}
use Rattle.canary_once.specs.Contents.{CallerMap, Contents, count_of, receipt_at, with_receipt}
use Rattle.canary_once.specs.Views.{view_of}

-- the requests of events, in order
abbrev pub requests_of : List Event → List Request
requests_of [] = []
requests_of (event.Request r ∷ es) = r ∷ requests_of es
requests_of (event.Query moment query ∷ es) = requests_of es

-- New, repeat, ahead.

abbrev pub is_of : List ℕ → Request → Bool
is_of caller r = bytes_eq caller r.caller

-- the number that a caller's next new request has, after these new requests
abbrev pub next_number : Contents → List Request → List ℕ → ℕ
next_number c news caller = count_of c caller + length (filter (is_of caller) news) + 1

-- a request is new if it has that number; a repeat has a lower one, and one ahead a higher one
abbrev pub is_new : Contents → List Request → Request → Bool
is_new c news r = r.number == next_number c news r.caller

-- those that are new, after those new ones
abbrev pub news_after : Contents → List Request → List Request → List Request
news_after c news [] = news
news_after c news (r ∷ rs) = news_after c (if is_new c news r then news ++ r ∷ [] else news) rs

-- the new requests of events, in order
abbrev pub news_of : Contents → List Event → List Request
news_of c es = news_after c [] (requests_of es)

-- callers and numbers dropped
abbrev pub bare : Request → ℕ × Command
bare r = (r.moment, r.command)

-- the settled requests: the new ones, refused or not, with their moments
abbrev pub settled_requests : Contents → List Event → List (ℕ × Command)
settled_requests c es = map bare (news_of c es)

-- Contents after events.

abbrev pub receipt_of : Request → Reply → Receipt
receipt_of r reply = record { command = r.command; reply = reply }

-- each new request has a receipt with its reply, under its caller
abbrev pub with_receipts : CallerMap → List Request → List Reply → CallerMap
with_receipts callers [] replies = callers
with_receipts callers (r ∷ rs) [] = callers
with_receipts callers (r ∷ rs) (reply ∷ replies) =
    with_receipts (with_receipt callers r.caller (receipt_of r reply)) rs replies

abbrev pub after : Contents → List Event → Contents
after c es =
    let run = machine c.desk (settled_requests c es) in
    record { callers = with_receipts c.callers (news_of c es) run.replies; desk = run.desk }

-- Answers.

-- {"code":"reused"}
abbrev pub reused_reply : Reply
reused_reply = record { status = Conflict; body = code_alone (codes "reused") }

-- {"code":"ahead","expected":NUMBER}
abbrev pub ahead_reply : ℕ → Reply
ahead_reply expected =
    record {
      status = Conflict;
      body = codes "{\"code\":\"ahead\",\"expected\":" ++ (decimal expected ++ codes "}");
    }

-- a repeat gets the reply of the receipt under its number, if it is the same command
abbrev pub repeat_reply : Option Receipt → Command → Reply
repeat_reply None command = reused_reply
repeat_reply (Some receipt) command =
    if same_command receipt.command command then receipt.reply else reused_reply

-- the reply to a request, after these events: the machine's if it is new; that of the receipt
-- if it is a repeat; else that it is ahead
abbrev pub answer_request : Contents → List Event → Request → Reply
answer_request c before r =
    let next = next_number c (news_of c before) r.caller in
    if r.number == next
    then (apply (machine c.desk (settled_requests c before)).desk r.moment r.command).reply
    else (if nat_lt r.number next
    then repeat_reply (receipt_at (after c before) r.caller r.number) r.command
    else ahead_reply next)

-- the reply to an event, after these
abbrev pub answer : Contents → List Event → Event → Reply
answer c before (event.Request r) = answer_request c before r
answer c before (event.Query moment query) = view_of (after c before).desk moment query

-- the replies to events in order, after these
abbrev pub answers_after : Contents → List Event → List Event → List Reply
answers_after c before [] = []
answers_after c before (e ∷ es) = answer c before e ∷ answers_after c (before ++ e ∷ []) es

abbrev pub answers_of : Contents → List Event → List Reply
answers_of c es = answers_after c [] es

-- Events that were answered otherwise than by a 503, and their replies.

abbrev pub answered_events : List Event → List Answer → List Event
answered_events [] answers = []
answered_events (e ∷ es) [] = []
answered_events (e ∷ es) (Replied reply ∷ answers) = e ∷ answered_events es answers
answered_events (e ∷ es) (Unavailable fault ∷ answers) = answered_events es answers

abbrev pub replies_in : List Answer → List Reply
replies_in [] = []
replies_in (Replied reply ∷ answers) = reply ∷ replies_in answers
replies_in (Unavailable fault ∷ answers) = replies_in answers
