-- One request, and the answer to one event.
use Rattle.std.specs.Prelude.{◌≡◌, ℕ, ◌+◌, ◌==◌, nat_lt, Bool, if◌then◌else◌, List, [], ◌∷◌, Result, IfOk, IfErr, OnErr}
use Rattle.canary_plan.specs.declared.command.Command.{Command}
use Rattle.canary_release.specs.declared.reply.Reply.{Reply}
use Rattle.canary_release.specs.declared.decide.Decision.{Decision}
use Rattle.canary_release.specs.Desks.{apply}
use Rattle.canary_release.specs.Stored.{IsStep}
use Rattle.canary_once.specs.declared.book.BookFault.{BookFault}
use Rattle.canary_once.specs.declared.event.Request.{Request}
use Rattle.canary_once.specs.declared.event.Event.{Event}
use Rattle.canary_once.specs.declared.event.Answer.{Answer}
use Rattle.canary_once.specs.declared.event.Answer.TheVariants.{Replied, Unavailable}
use Rattle.canary_once.specs.Contents.{Contents, count_of, receipt_at, with_receipt, KeepsReceipts}
use Rattle.canary_once.specs.BookCalls.{BookState, IsFault, StaysInMemory}
use Rattle.canary_once.specs.Sound.{AreContents, AreSoundContents}
use Rattle.canary_once.specs.Answers.{receipt_of, repeat_reply, ahead_reply, answer, after}

abbrev pub request_of : ℕ → List ℕ → ℕ → Command → Request
request_of moment caller number command =
    record { moment = moment; caller = caller; number = number; command = command }

-- the reply to a new request
abbrev pub new_reply : Contents → Request → Reply
new_reply c r = (apply c.desk r.moment r.command).reply

-- contents with a new request settled
abbrev pub settle : Contents → Request → Contents
settle c r =
    let a = apply c.desk r.moment r.command in record
    { callers = with_receipt c.callers r.caller (receipt_of r a.reply); desk = a.desk }

-- the reply to one request
abbrev pub reply_to : Contents → Request → Reply
reply_to c r =
    let next = count_of c r.caller + 1 in
    if r.number == next
    then new_reply c r
    else (if nat_lt r.number next then repeat_reply (receipt_at c r.caller r.number) r.command
    else ahead_reply next)

-- the contents after one request
abbrev pub after_one : Contents → Request → Contents
after_one c r = if r.number == count_of c r.caller + 1 then settle c r else c

-- an answer to an event, with the contents before and after: the machine's, or a 503 that changed
-- nothing
abbrev pub IsAnswer : Contents → Event → Answer → Contents → Type 0
IsAnswer c e (Replied reply) new = (reply ≡ answer c [] e) × (new ≡ after c (e ∷ []))
IsAnswer c e (Unavailable fault) new = new ≡ c

-- only over a book that is not sure an answer is 503 for its store
abbrev pub IsFaultOf : Bool → Answer → Type 0
IsFaultOf sure (Replied reply) = Unit {0}
IsFaultOf sure (Unavailable fault) = IsFault sure fault

-- what a book did as an event was answered
pub record IsAnsweredBy (old new : BookState) (e : Event) (a : Answer) : Type 0 where
  pub honest : new.is_honest → old.is_honest
  pub in_memory : StaysInMemory old new
  pub sound : new.is_honest → AreSoundContents old.contents → AreSoundContents new.contents
  pub step : new.is_honest → IsAnswer old.contents e a new.contents
  pub receipts : new.is_honest → KeepsReceipts old.contents new.contents
  pub sure : new.is_sure ≡ old.is_sure
  pub fault : IsFaultOf old.is_sure a

-- and as a request got its reply, these contents being there then, or failed
pub record RepliesBy (reply : Contents → Reply) (next : Contents → Contents) (old new : BookState)
    (given : Result Reply BookFault) : Type 0 where
  pub honest : new.is_honest → old.is_honest
  pub in_memory : StaysInMemory old new
  pub lawful : new.is_honest → AreContents old.contents
  pub ok : new.is_honest
      → IfOk given (λ r. (r ≡ reply old.contents) × (new.contents ≡ next old.contents))
  pub err : new.is_honest → OnErr given (new.contents ≡ old.contents)
  pub sure : new.is_sure ≡ old.is_sure
  pub fault : IfErr given (IsFault old.is_sure)

-- and as a command was decided at its moment, by one step of the machine on these contents, which
-- stay, or failed
pub record DecidesOn (moment : ℕ) (command : Command) (old new : BookState)
    (given : Result Decision BookFault) : Type 0 where
  pub honest : new.is_honest → old.is_honest
  pub in_memory : StaysInMemory old new
  pub lawful : new.is_honest → AreContents old.contents
  pub same : new.is_honest → new.contents ≡ old.contents
  pub step : new.is_honest → IfOk given (λ d. IsStep old.contents.desk moment command d)
  pub sure : new.is_sure ≡ old.is_sure
  pub fault : IfErr given (IsFault old.is_sure)
