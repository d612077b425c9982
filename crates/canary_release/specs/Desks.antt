-- The desk, one command, and the small machine.
use Rattle.std.specs.Prelude.{ℕ, ◌+◌, nat_le, false, List, [], ◌∷◌, ◌++◌, length, Option, Some, None, option_map, unwrap_or, Result, Ok, Err}
use Rattle.std.specs.Ordering.{nat_cmp}
use Rattle.std.specs.Cmp.Lexicographic.{slice_cmp}
use Rattle.std.specs.List.{last_or}
use Rattle.std.specs.FinMap.{FinMap, get, insert, empty}
use Rattle.canary_plan.specs.declared.service.ServiceSpec.{ServiceSpec}
use Rattle.canary_plan.specs.declared.template_spec.TemplateSpec.{TemplateSpec}
use Rattle.canary_plan.specs.declared.template.Template.{Template}
use Rattle.canary_plan.specs.declared.command.Command.{Command}
use Rattle.canary_plan.specs.declared.command.Command.TheVariants.{Template as AddTemplate, Service as AddService}
use Rattle.canary_plan.specs.declared.line.LineEvent.TheVariants.{Created}
use Rattle.canary_plan.specs.declared.refusal.Refusal.{Refusal}
use Rattle.canary_plan.specs.declared.refusal.Refusal.TheVariants.{UnknownService, RevisionsSpent}
use Rattle.canary_plan.specs.Plans.{Templates, template_of, strategy_of, unbound}
use Rattle.canary_plan.specs.PlanRefusals.{template_refusal, strategy_refusal}
use Rattle.canary_plan.specs.Refusals.{first_that_holds, or_refusal}
use Rattle.canary_plan.specs.Commands.{subject_of}
use Rattle.canary_release.specs.declared.effect.Effect.{Effect}
use Rattle.canary_release.specs.declared.reply.Reply.{Reply}
use Rattle.canary_release.specs.declared.state.ReleaseState.TheVariants.{Done}
use Rattle.canary_release.specs.declared.state.ServiceState.{ServiceState}
use Rattle.canary_release.specs.Pasts.{Past, no_past, past_with_all, tracked}
use Rattle.canary_release.specs.Evolutions.{Evolution, RunView, evolution_from, tell}
use Rattle.canary_release.specs.Rules.Passing.{pass, judged_at}
use Rattle.canary_release.specs.Rules.Commands.{ModelResult, succeeds_with, unless, act}
use Rattle.canary_release.specs.Replies.{template_text, accepted, refused}

-- a service of the model: the command that made it, how it stands, and its whole past
pub record ModelService : Type 0 where
  pub made : ServiceSpec
  pub service : ServiceState
  pub past : Past

-- what is tracked of whole lists
abbrev pub watch_of : Past → RunView
watch_of p xs = tracked (past_with_all p xs)

-- a service of the model, with nothing changed
abbrev pub model_evolution : ModelService → Evolution
model_evolution m = evolution_from m.service (watch_of m.past)

-- what a command does to the desk
pub data Change : Type 0 where
  Nothing : Change
  Adds : (t : Template) → Change
  Becomes : (c : Evolution) → Change

-- what a command does and answers
pub record ModelDecision : Type 0 where
  pub change : Change
  pub reply : Reply

abbrev pub refuses : Refusal → ModelDecision
refuses refusal = record { change = Nothing; reply = refused refusal }

-- a refusal changes nothing; else the service becomes what the command leads to, and is shown
abbrev pub rules : Result ModelResult Refusal → ModelDecision
rules (Ok a) =
    record { change = Becomes a.evolution; reply = accepted (a.shows a.evolution.service) }
rules (Err refusal) = refuses refusal

-- passed to t, if it is not refused
abbrev pub passed_on : Result ModelResult Refusal → ℕ → Result ModelResult Refusal
passed_on (Ok a) t = Ok (record a { evolution = pass a.evolution t })
passed_on (Err refusal) t = Err refusal

-- a command on a service, which is passed to t before and after; t is the later of the moment and
-- the service's last
abbrev pub act_passed : Templates → Command → Evolution → ℕ → Result ModelResult Refusal
act_passed known command c now =
    let t = judged_at c.service now in
    passed_on (act known command (pass c now) t) t

-- a new service is done and bound to no templates: its version is the stable one, and it stands
-- after its last step
abbrev pub new_service_state : ServiceSpec → ℕ → ServiceState
new_service_state spec now =
    record {
      name = spec.name;
      strategy = strategy_of spec;
      bound = unbound (strategy_of spec);
      stable = spec.version;
      version = spec.version;
      state = Done;
      step = length spec.steps;
      entered = now;
      step_hold = false;
      background_hold = false;
      background = false;
      last = now;
    }

abbrev pub new_service : ServiceSpec → ℕ → Evolution
new_service spec now =
    tell (evolution_from (new_service_state spec now) (watch_of no_past)) now (Created spec.version)

-- a command if there is no service of its name
abbrev pub act_new : Templates → Command → ℕ → Result ModelResult Refusal
act_new known (AddService spec) now =
    unless (strategy_refusal known spec) (succeeds_with (new_service spec now))
act_new known command now = Err UnknownService

abbrev pub adds_unless : Option Refusal → Template → ModelDecision
adds_unless None t =
    record { change = Adds t; reply = accepted (template_text t.spec.name t.revision) }
adds_unless (Some refusal) t = refuses refusal

-- the number of a newest revision, 0 if there is none
abbrev pub newest_number : Option Template → ℕ
newest_number None = 0
newest_number (Some t) = t.revision

-- why a template is refused whose newest revision has this number
abbrev pub revision_refusal : ℕ → TemplateSpec → Option Refusal
revision_refusal number spec =
    or_refusal (template_refusal spec)
    (first_that_holds ((nat_le 1000000 number, RevisionsSpent) ∷ []))

-- the next revision of a template is added, if this is its newest
abbrev pub rule_template : Option Template → TemplateSpec → ModelDecision
rule_template newest spec =
    let number = newest_number newest in adds_unless (revision_refusal number spec)
    (template_of spec (number + 1))

-- a command on a service, which may be there
abbrev pub rule_service : Templates → Option Evolution → ℕ → Command → ModelDecision
rule_service known None now command = rules (act_new known command now)
rule_service known (Some c) now command = rules (act_passed known command c now)

-- what a command does and answers, from the templates that are known and the service that it names
abbrev pub model_decision : Templates → Option Evolution → ℕ → Command → ModelDecision
model_decision known found now (AddTemplate spec) = rule_template (known spec.name) spec
model_decision known found now command = rule_service known found now command

-- the revisions of each template, from 1 on, by name
abbrev pub RevisionMap : Type 0
RevisionMap = FinMap (slice_cmp nat_cmp) (List Template)

abbrev pub revisions_of : RevisionMap → List ℕ → List Template
revisions_of templates name = unwrap_or (get templates name) []

-- the newest revision of each template
abbrev pub newest : RevisionMap → Templates
newest templates name = last_or None (revisions_of templates name)

-- with one revision more of a template
abbrev pub with_revision : RevisionMap → List ℕ → Template → RevisionMap
with_revision templates name t = insert templates name (revisions_of templates name ++ t ∷ [])

-- the templates and the services, by name
pub record Desk : Type 0 where
  pub templates : RevisionMap
  pub services : FinMap (slice_cmp nat_cmp) ModelService

abbrev pub no_desk : Desk
no_desk = record { templates = empty; services = empty }

-- the command that made a service that is new, by how it stands
abbrev pub made_as : ServiceState → ServiceSpec
made_as s =
    record {
      name = s.name;
      version = s.version;
      steps = s.strategy.steps;
      background = s.strategy.background;
    }

-- a service before a change: as it is, or a new one with no past
abbrev pub before : Option ModelService → ServiceState → ModelService
before (Some m) s = m
before None s = record { made = made_as s; service = s; past = no_past }

-- after a change it stands so, and its past has grown by the effects
abbrev pub after : Option ModelService → ServiceState → List Effect → ModelService
after found s effects =
    let m = before found s in
    record m { service = s; past = past_with_all m.past effects }

-- the desk with the service of that name changed
abbrev pub with_service : Desk → List ℕ → ServiceState → List Effect → Desk
with_service desk name s effects =
    record desk { services = insert desk.services name (after (get desk.services name) s effects) }

-- the desk after a change that a command brings
abbrev pub desk_after : Desk → Command → Change → Desk
desk_after desk command Nothing = desk
desk_after desk command (Adds t) =
    record desk { templates = with_revision desk.templates (subject_of command) t }
desk_after desk command (Becomes c) = with_service desk (subject_of command) c.service c.effects

pub record Applied : Type 0 where
  pub desk : Desk
  pub reply : Reply

abbrev pub ruling_on : Desk → ℕ → Command → ModelDecision
ruling_on desk now command =
    model_decision (newest desk.templates)
    (option_map model_evolution (get desk.services (subject_of command))) now command

-- one command at its moment
abbrev pub apply : Desk → ℕ → Command → Applied
apply desk now command =
    let r = ruling_on desk now command in
    record { desk = desk_after desk command r.change; reply = r.reply }

pub record Machine : Type 0 where
  pub desk : Desk
  pub replies : List Reply

-- the small machine: commands at their moments, one after another, with no callers, numbers or
-- register
abbrev pub machine : Desk → List (ℕ × Command) → Machine
machine desk [] = record { desk = desk; replies = [] }
machine desk (x ∷ xs) =
    let first = apply desk x.0 x.1 in
    let rest = machine first.desk xs in
    record { desk = rest.desk; replies = first.reply ∷ rest.replies }
