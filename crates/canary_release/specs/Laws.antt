-- Laws of the small machine.
use Rattle.std.specs.Prelude.{◌≡◌, ◌≢◌, ◌⊎◌, ◌≤◌, ℕ, zero, suc, ◌||◌, Bool, true, false, IsTrue, List, [], ◌∷◌, ◌++◌, length, filter, Option, option_map}
use Rattle.std.specs.List.{AllByRecursion, zip}
use Rattle.std.specs.FinMap.{get}
use Rattle.std.specs.Str.{bytes_eq}
use Rattle.canary_plan.specs.declared.command.Command.{Command}
use Rattle.canary_plan.specs.declared.command.Command.TheVariants.{Template as AddTemplate, Tick}
use Rattle.canary_plan.specs.Plans.{Templates, Agree}
use Rattle.canary_plan.specs.Commands.{subject_of, names_looked_up}
use Rattle.canary_release.specs.declared.effect.Effect.{Effect}
use Rattle.canary_release.specs.declared.reply.Reply.{Reply}
use Rattle.canary_release.specs.declared.reply.ReplyStatus.TheVariants.{Accepted, Refused}
use Rattle.canary_release.specs.Pasts.{Past, past_with_all, tracked}
use Rattle.canary_release.specs.Watching.{after_all}
use Rattle.canary_release.specs.Evolutions.{Evolution}
use Rattle.canary_release.specs.Rules.Passing.{pass}
use Rattle.canary_release.specs.Desks.{ModelService, model_evolution, Desk, model_decision, apply, machine}

-- what is tracked after all that happened is seen in the whole lists as in the tallies
abbrev pub WatchesAlike : Type 0
WatchesAlike = (p : Past) (xs : List Effect) → tracked (past_with_all p xs)
    ≡ after_all (tracked p) xs

-- a command is accepted, or refused and the desk as it was
abbrev pub RefusalsLeaveTheDesk : Type 0
RefusalsLeaveTheDesk =
    (desk : Desk) (now : ℕ) (command : Command)
    → let a = apply desk now command in (a.reply.status ≡ Accepted)
    ⊎ ((a.reply.status ≡ Refused) × (a.desk ≡ desk))

-- a decision looks only at the templates that its command looks up
abbrev pub LooksOnlyAt : Type 0
LooksOnlyAt =
    (known other : Templates) (found : Option Evolution) (now : ℕ) (command : Command)
    → Agree known other
    (names_looked_up (option_map (λ (c : Evolution). c.service.strategy) found) command)
    → model_decision known found now command ≡ model_decision other found now command

-- Services apart from one another.

abbrev pub is_template : Command → Bool
is_template (AddTemplate spec) = true
is_template command = false

-- a command on the service of that name; a Template is on none
abbrev pub is_on : List ℕ → Command → Bool
is_on name (AddTemplate spec) = false
is_on name command = bytes_eq name (subject_of command)

-- a Template, or a command on that service
abbrev pub concerns : List ℕ → ℕ × Command → Bool
concerns name request = is_template request.1 || is_on name request.1

-- the commands that concern a service, in order, each with its moment
abbrev pub concerning : List ℕ → List (ℕ × Command) → List (ℕ × Command)
concerning name requests = filter (concerns name) requests

abbrev pub is_reply_on : List ℕ → (ℕ × Command) × Reply → Bool
is_reply_on name answered = is_on name answered.0.1

-- the commands on a service, in order, each with its reply
abbrev pub replies_on : List ℕ → Desk → List (ℕ × Command) → List ((ℕ × Command) × Reply)
replies_on name desk requests =
    filter (is_reply_on name) (zip requests (machine desk requests).replies)

-- two desks agree on the templates and on a service, with its whole past
pub record AgreeOn (name : List ℕ) (desk other : Desk) : Type 0 where
  pub templates : (template : List ℕ) → get desk.templates template ≡ get other.templates template
  pub service : get desk.services name ≡ get other.services name

-- from desks that agree on a service, commands of which the same concern it lead to the same
-- service and the same replies
abbrev pub AreIndependent : Type 0
AreIndependent =
    (name : List ℕ) (desk other : Desk) (xs ys : List (ℕ × Command)) → AgreeOn name desk other
    → concerning name xs ≡ concerning name ys
    → AgreeOn name (machine desk xs).desk (machine other ys).desk
    × (replies_on name desk xs ≡ replies_on name other ys)

-- Ticks.

-- a service passed to a moment, with what happened on the way
abbrev pub passed_to : ℕ → ModelService → ModelService
passed_to t m =
    let c = pass (model_evolution m) t in
    record m { service = c.service; past = past_with_all m.past c.effects }

-- no command on that service has an earlier moment
abbrev pub AreFrom : ℕ → List ℕ → List (ℕ × Command) → Type 0
AreFrom t name requests =
    AllByRecursion (λ request. IsTrue (is_on name request.1) → t ≤ request.0) requests

-- a list without its element at a place, from 0
abbrev pub left_out : {A : Type 0} → ℕ → List A → List A
left_out k [] = []
left_out zero (x ∷ xs) = xs
left_out (suc k) (x ∷ xs) = x ∷ left_out k xs

-- two desks agree on the templates, on every other service, and on this one passed to any moment
-- from t on
pub record AgreeFrom (t : ℕ) (name : List ℕ) (desk other : Desk) : Type 0 where
  pub templates : (template : List ℕ) → get desk.templates template ≡ get other.templates template
  pub others : (service : List ℕ) → service ≢ name
      → get desk.services service ≡ get other.services service
  pub service : (u : ℕ) → t ≤ u
      → option_map (passed_to u) (get desk.services name)
      ≡ option_map (passed_to u) (get other.services name)

-- a Tick on a service, after which no command on that service has an earlier moment, changes no
-- reply but its own, and the service only by time
abbrev pub TicksOnlyPassTime : Type 0
TicksOnlyPassTime =
    (desk : Desk) (name : List ℕ) (t : ℕ) (xs ys : List (ℕ × Command)) → AreFrom t name ys
    → (let ticked = machine desk (xs ++ (t, Tick name) ∷ ys) in
    let plain = machine desk (xs ++ ys) in
    (left_out (length xs) ticked.replies ≡ plain.replies) × AgreeFrom t name ticked.desk plain.desk)
