-- What is kept of a service of the model, and when the code's answers are the model's.
use Rattle.std.specs.Prelude.{◌≡◌, ℕ, List, Option, Some, None, option_map, Result, Ok, Err}
use Rattle.std.specs.FinMap.{get}
use Rattle.canary_plan.specs.declared.strategy.CheckedStrategy.{CheckedStrategy}
use Rattle.canary_plan.specs.declared.command.Command.{Command}
use Rattle.canary_plan.specs.declared.refusal.Refusal.{Refusal}
use Rattle.canary_plan.specs.Commands.{subject_of}
use Rattle.canary_release.specs.declared.service.ServiceParts.{ServiceParts}
use Rattle.canary_release.specs.declared.transition.Transition.{Transition}
use Rattle.canary_release.specs.declared.service.Passed.{Passed}
use Rattle.canary_release.specs.declared.rules.commands.CommandResult.{CommandResult}
use Rattle.canary_release.specs.declared.decide.DeskChange.{DeskChange}
use Rattle.canary_release.specs.declared.decide.DeskChange.TheVariants.{Nothing, Template as AddsTemplate, Service as Updates}
use Rattle.canary_release.specs.declared.decide.Decision.{Decision}
use Rattle.canary_release.specs.Pasts.{tracked}
use Rattle.canary_release.specs.Watching.{after_all}
use Rattle.canary_release.specs.Evolutions.{Evolution, evolution_from, runs_now}
use Rattle.canary_release.specs.Rules.Passing.{pass}
use Rattle.canary_release.specs.Rules.Commands.{ModelResult}
use Rattle.canary_release.specs.Replies.{shown_by}
use Rattle.canary_release.specs.Desks.{ModelService, Change, ModelDecision, Desk, with_revision, ruling_on, with_service, apply}
use Rattle.canary_release.specs.Desks.Change.{Nothing as Stays, Adds, Becomes}

-- a service as it is kept, with nothing changed: what is kept gives the view of runs
abbrev pub stored_evolution : ServiceParts → Evolution
stored_evolution s = evolution_from s.service (after_all s.runs)

-- an evolution of the code, as the definitions see it: what was kept gives the view of runs
abbrev pub evolution_of : Transition → Evolution
evolution_of d =
    record { service = d.service; effects = d.tracked.effects; watch = after_all d.tracked.kept }

-- how many runs it has had by now
abbrev pub run_total : Transition → ℕ
run_total d = (runs_now (evolution_of d)).count

-- what is kept of a service of the model: how it stands, and what is tracked of its past
abbrev pub stored_form : ModelService → ServiceParts
stored_form m = record { service = m.service; runs = tracked m.past }

-- the strategy of a service that is kept
abbrev pub strategy_kept : ServiceParts → CheckedStrategy
strategy_kept s = s.service.strategy

-- what is kept at the end of an evolution
abbrev pub stored_after : Evolution → ServiceParts
stored_after c = record { service = c.service; runs = runs_now c }

-- what a service has passed to, as the code says it
abbrev pub IsPassing : ServiceParts → ℕ → Passed → Type 0
IsPassing s t p =
    let c = pass (stored_evolution s) t in
    p ≡ record { service = stored_after c; effects = c.effects }

-- a change of the machine, as the code says it
abbrev pub change_of : Change → DeskChange
change_of Stays = Nothing
change_of (Adds t) = AddsTemplate t
change_of (Becomes c) = Updates (stored_after c) c.effects

-- where a command leads the code, with what a report adds to its reply
abbrev pub command_result_of : CommandResult → ModelResult
command_result_of l = record { evolution = evolution_of l.transition; shows = shown_by l.reported }

abbrev pub model_result_of : Result CommandResult Refusal → Result ModelResult Refusal
model_result_of (Ok l) = Ok (command_result_of l)
model_result_of (Err refusal) = Err refusal

-- a decision, as the code says it
abbrev pub decision_of : ModelDecision → Decision
decision_of r = record { reply = r.reply; change = change_of r.change }

-- the desk with a change that the code says
abbrev pub desk_with : Desk → Command → DeskChange → Desk
desk_with desk command Nothing = desk
desk_with desk command (AddsTemplate t) =
    record desk { templates = with_revision desk.templates (subject_of command) t }
desk_with desk command (Updates s effects) =
    with_service desk (subject_of command) s.service effects

-- what is kept of the service of that name, or none
abbrev pub stored_service : Desk → List ℕ → Option ServiceParts
stored_service desk name = option_map stored_form (get desk.services name)

-- the decision is the machine's step: its change is the command's; the desk with it is the desk
-- after the command; and its reply is the command's
pub record IsStep (desk : Desk) (now : ℕ) (command : Command) (d : Decision) : Type 0 where
  pub change : d.change ≡ change_of (ruling_on desk now command).change
  pub desk_after : desk_with desk command d.change ≡ (apply desk now command).desk
  pub reply : d.reply ≡ (apply desk now command).reply

-- what the code keeps of a service that a change brings, if it brings one
abbrev pub stored_by : DeskChange → Option ServiceParts
stored_by (Updates s effects) = Some s
stored_by Nothing = None
stored_by (AddsTemplate t) = None

-- the law: the service that a change brings is what is kept of that service of the desk after it,
-- tallies and all
abbrev pub KeepsWhatIsSeen : Type 0
KeepsWhatIsSeen =
    (desk : Desk) (now : ℕ) (command : Command) (s : ServiceParts)
    → stored_by (change_of (ruling_on desk now command).change) ≡ Some s
    → stored_service (apply desk now command).desk (subject_of command) ≡ Some s
