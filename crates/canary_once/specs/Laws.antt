-- Laws of the register.
use Rattle.std.specs.Prelude.{◌≡◌, ◌⊎◌, ℕ, ◌+◌, ◌≤◌, if◌then◌else◌, List, [], ◌∷◌, ◌++◌, map, filter}
use Rattle.canary_release.specs.declared.reply.Reply.{Reply}
use Rattle.canary_release.specs.declared.reply.ReplyStatus.TheVariants.{Accepted, Refused, Conflict, NotFound}
use Rattle.canary_release.specs.Order.{AreInOrder}
use Rattle.canary_release.specs.Desks.{machine}
use Rattle.canary_once.specs.declared.event.Request.{Request}
use Rattle.canary_once.specs.declared.event.Query.{Query}
use Rattle.canary_once.specs.declared.event.Event.{Event}
use Rattle.canary_once.specs.declared.event.Event.TheVariants as event
use Rattle.canary_once.specs.declared.book.Settlement.{Settlement}
use Rattle.canary_once.specs.Contents.{Contents, count_of, receipt_at, IsSettledStatus, KeepsSettled, KeepsReceipts, with_settlement, IsSettling}
use Rattle.canary_once.specs.Sound.{AreContents, AreSoundContents}
use Rattle.canary_once.specs.Answers.{is_of, is_new, news_of, settled_requests, answer, answer_request, answers_of, after, repeat_reply}
use Rattle.canary_once.specs.Single.{reply_to, after_one}

-- the replies to the new requests among events, after these
abbrev pub replies_to_new : Contents → List Event → List Event → List Reply
replies_to_new c before [] = []
replies_to_new c before (event.Query moment query ∷ es) =
    replies_to_new c (before ++ event.Query moment query ∷ []) es
replies_to_new c before (event.Request r ∷ es) =
    let rest = replies_to_new c (before ++ event.Request r ∷ []) es in
    if is_new c (news_of c before) r then answer_request c before r ∷ rest else rest

-- the replies to the new requests are those of one run of the machine over all settled requests
abbrev pub NewAreOfTheMachine : Type 0
NewAreOfTheMachine =
    (c : Contents) (es : List Event)
    → replies_to_new c [] es ≡ (machine c.desk (settled_requests c es)).replies

-- numbers that go up by one, from that number on
abbrev pub GoUpFrom : ℕ → List ℕ → Type 0
GoUpFrom first [] = Unit {0}
GoUpFrom first (n ∷ ns) = (n ≡ first) × GoUpFrom (first + 1) ns

-- the numbers of a caller's requests
abbrev pub numbers_of : List ℕ → List Request → List ℕ
numbers_of caller rs = map (λ (r : Request). r.number) (filter (is_of caller) rs)

-- each number of a caller is settled once, in order
abbrev pub EachOnce : Type 0
EachOnce =
    (c : Contents) (es : List Event) (caller : List ℕ)
    → GoUpFrom (count_of c caller + 1) (numbers_of caller (news_of c es))

-- one request: a new one is settled, and a repeat or one ahead changes nothing, whatever its reply
abbrev pub OneRequest : Type 0
OneRequest =
    (c : Contents) (r : Request)
    → (answer c [] (event.Request r) ≡ reply_to c r)
    × (after c (event.Request r ∷ []) ≡ after_one c r)

-- a list of events runs on where another stopped: it does not matter how events are cut into runs
abbrev pub RunsOn : Type 0
RunsOn =
    (c : Contents) (first rest : List Event)
    → (answers_of c (first ++ rest) ≡ answers_of c first ++ answers_of (after c first) rest)
    × (after c (first ++ rest) ≡ after (after c first) rest)

-- a caller with 1,000,000,000 settled requests has no number ahead: each is a repeat
abbrev pub NoneIsAhead : Type 0
NoneIsAhead =
    (c : Contents) (before : List Event) (r : Request)
    → count_of (after c before) r.caller ≡ 1000000000 → r.number ≤ 1000000000
    → answer c before (event.Request r)
    ≡ repeat_reply (receipt_at (after c before) r.caller r.number) r.command

-- a conflict leaves the contents as they were
abbrev pub ConflictsChangeNothing : Type 0
ConflictsChangeNothing =
    (c : Contents) (e : Event) → (answer c [] e).status ≡ Conflict → after c (e ∷ []) ≡ c

-- a refusal leaves the desk as it was
abbrev pub RefusalsLeaveTheDesk : Type 0
RefusalsLeaveTheDesk =
    (c : Contents) (e : Event) → (answer c [] e).status ≡ Refused → (after c (e ∷ [])).desk ≡ c.desk

-- contents in which none is stay so
abbrev pub StaysSettled : Type 0
StaysSettled = (c : Contents) (es : List Event) → KeepsSettled c → KeepsSettled (after c es)

-- an answer to a request says that it was accepted or refused, or that it conflicts
abbrev pub RequestsAreAnswered : Type 0
RequestsAreAnswered =
    (c : Contents) (r : Request) → KeepsSettled c
    → IsSettledStatus (answer c [] (event.Request r)).status
    ⊎ ((answer c [] (event.Request r)).status ≡ Conflict)

-- an answer to a query shows what it asks for, or says that it is not there
abbrev pub QueriesAreAnswered : Type 0
QueriesAreAnswered =
    (c : Contents) (moment : ℕ) (query : Query)
    → ((answer c [] (event.Query moment query)).status ≡ Accepted)
    ⊎ ((answer c [] (event.Query moment query)).status ≡ NotFound)

-- a query changes nothing
abbrev pub QueriesChangeNothing : Type 0
QueriesChangeNothing =
    (c : Contents) (moment : ℕ) (query : Query) → after c (event.Query moment query ∷ []) ≡ c

-- a desk in order stays in order, and sound contents stay sound
abbrev pub StaysSound : Type 0
StaysSound =
    (c : Contents) (es : List Event) → AreInOrder c.desk
    → AreInOrder (after c es).desk × (AreSoundContents c → AreSoundContents (after c es))

-- a settled request keeps what holds of all contents, sound contents sound, and each receipt
pub record SettledKeeps (c : Contents) (s : Settlement) : Type 0 where
  pub lawful : AreContents (with_settlement c s)
  pub sound : AreSoundContents c → AreSoundContents (with_settlement c s)
  pub receipts : KeepsReceipts c (with_settlement c s)

abbrev pub SettlementsKeep : Type 0
SettlementsKeep =
    (c : Contents) (s : Settlement) → s.number ≤ 1000000000 → IsSettling c s → AreContents c
    → SettledKeeps c s
