-- Senders: each caller has a script, and sends its commands under their numbers, any of them again
-- and again, with gaps and in any order. Queries may come between them.
use Rattle.std.specs.Prelude.{◌≡◌, ◌≢◌, ℕ, ◌+◌, ◌≤◌, List, ◌∷◌, ◌++◌, length, map, filter, take, Some, false, slice_get}
use Rattle.std.specs.List.{AllByRecursion}
use Rattle.canary_plan.specs.declared.command.Command.{Command}
use Rattle.canary_plan.specs.Commands.{subject_of}
use Rattle.canary_release.specs.Laws.{is_template}
use Rattle.canary_once.specs.declared.event.Request.{Request}
use Rattle.canary_once.specs.declared.event.Event.{Event}
use Rattle.canary_once.specs.declared.event.Event.TheVariants as event
use Rattle.canary_once.specs.Contents.{Contents, count_of, IsSettledStatus, KeepsSettled}
use Rattle.canary_once.specs.Answers.{requests_of, is_of, news_of, reused_reply, answer, answers_of, after}

-- for each caller the commands that it sends
abbrev pub Scripts : Type 0
Scripts = List ℕ → List Command

-- a request has a command of its caller's script, and that command's number: a script is numbered
-- on from its caller's last settled request, and if there is none, from 1
pub record IsDrawn (scripts : Scripts) (c : Contents) (r : Request) : Type 0 where
  pub place : ℕ
  pub command : slice_get (scripts r.caller) place ≡ Some r.command
  pub number : r.number ≡ count_of c r.caller + place + 1

-- so has each request among events
abbrev pub AreDrawn : Scripts → Contents → List Event → Type 0
AreDrawn scripts c es = AllByRecursion (IsDrawn scripts c) (requests_of es)

-- the commands of a caller's requests, in order
abbrev pub commands_of : List ℕ → List Request → List Command
commands_of caller rs = map (λ (r : Request). r.command) (filter (is_of caller) rs)

-- a caller has settled so many requests more, and no more than its script has: their commands are
-- the first of the script, in order
pub record SettlesFirst (script : List Command) (c : Contents) (es : List Event)
    (caller : List ℕ) (settled : ℕ) : Type 0 where
  pub count : count_of (after c es) caller ≡ count_of c caller + settled
  pub within : settled ≤ length script
  pub commands : commands_of caller (news_of c es) ≡ take settled script

-- what is settled is a prefix of each script, interleaved
abbrev pub SettleFirstParts : Type 0
SettleFirstParts =
    (scripts : Scripts) (c : Contents) (es : List Event) → AreDrawn scripts c es
    → (caller : List ℕ) → (settled : ℕ) × SettlesFirst (scripts caller) c es caller settled

-- no answer says that a number was used for another command
abbrev pub NoneIsReused : Type 0
NoneIsReused =
    (scripts : Scripts) (c : Contents) (es : List Event) → KeepsSettled c → AreDrawn scripts c es
    → AllByRecursion (λ reply. reply ≢ reused_reply) (answers_of c es)

-- a caller's script is settled whole
abbrev pub IsSettledWhole : Scripts → Contents → List Event → List ℕ → Type 0
IsSettledWhole scripts c es caller =
    count_of (after c es) caller ≡ count_of c caller + length (scripts caller)

-- it is once the request under its last number was answered as settled
abbrev pub LastSettlesAll : Type 0
LastSettlesAll =
    (scripts : Scripts) (c : Contents) (before rest : List Event) (r : Request)
    → AreDrawn scripts c (before ++ event.Request r ∷ rest)
    → r.number ≡ count_of c r.caller + length (scripts r.caller)
    → IsSettledStatus (answer c before (event.Request r)).status
    → IsSettledWhole scripts c (before ++ event.Request r ∷ rest) r.caller

-- no caller has settled a request
abbrev pub NobodyHasSettled : Contents → Type 0
NobodyHasSettled c = (caller : List ℕ) → count_of c caller ≡ 0

-- Orders of arrival.

-- no script has a Template, and no two scripts name one service
pub record AreApart (scripts : Scripts) : Type 0 where
  pub no_template : (caller : List ℕ) (place : ℕ) (command : Command)
      → slice_get (scripts caller) place ≡ Some command → is_template command ≡ false
  pub services : (one other : List ℕ) (i j : ℕ) (x y : Command)
      → slice_get (scripts one) i ≡ Some x → slice_get (scripts other) j ≡ Some y
      → subject_of x ≡ subject_of y → one ≡ other

-- requests that are drawn from the scripts come all at one moment, and settle every script whole
pub record SettleAllAt (moment : ℕ) (scripts : Scripts) (c : Contents) (es : List Event)
    : Type 0 where
  pub drawn : AreDrawn scripts c es
  pub at_once : AllByRecursion (λ (r : Request). r.moment ≡ moment) (requests_of es)
  pub whole : (caller : List ℕ) → IsSettledWhole scripts c es caller

-- in whatever order they arrive, and with whatever copies, the contents after them are the same
abbrev pub OrderDoesNotMatter : Type 0
OrderDoesNotMatter =
    (scripts : Scripts) (c : Contents) (moment : ℕ) (es other : List Event) → AreApart scripts
    → SettleAllAt moment scripts c es → SettleAllAt moment scripts c other
    → after c es ≡ after c other
