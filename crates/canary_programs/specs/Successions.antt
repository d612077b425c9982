-- The desk that succeeds another one: which requests make it, and how it stands then.
use Rattle.std.specs.Prelude.{◌≡◌, ℕ, suc, Bool, false, List, [], ◌∷◌, ◌++◌, Option, Some, None, option_map, codes}
use Rattle.std.specs.List.{list_any, filter_map, AllByRecursion}
use Rattle.canary_plan.specs.declared.service.ServiceSpec.{ServiceSpec}
use Rattle.canary_plan.specs.declared.template.Template.{Template}
use Rattle.canary_plan.specs.declared.command.Command.{Command}
use Rattle.canary_plan.specs.declared.command.Command.TheVariants.{Template as AddTemplate, Service as AddService}
use Rattle.canary_release.specs.declared.reply.Reply.{Reply}
use Rattle.canary_release.specs.declared.reply.ReplyStatus.TheVariants.{Accepted}
use Rattle.canary_release.specs.declared.service.ServiceParts.{ServiceParts}
use Rattle.canary_release.specs.declared.state.ServiceState.{ServiceState}
use Rattle.canary_release.specs.Services.{is_in_progress}
use Rattle.canary_release.specs.Rules.Passing.{pass}
use Rattle.canary_release.specs.Stored.{stored_evolution, stored_service}
use Rattle.canary_release.specs.Desks.{Desk, newest}
use Rattle.canary_once.specs.declared.event.Event.{Event}
use Rattle.canary_once.specs.declared.event.Event.TheVariants.{Request}
use Rattle.canary_once.specs.declared.event.Answer.{Answer}
use Rattle.canary_once.specs.declared.event.Answer.TheVariants.{Replied, Unavailable}
use Rattle.canary_once.specs.Contents.{Contents}
use Rattle.canary_once.specs.Answers.{after, answers_of}
use Rattle.canary_once.specs.Single.{request_of}

-- how a service stands, passed to a moment
abbrev pub stand_at : ℕ → ServiceParts → ServiceState
stand_at now s = (pass (stored_evolution s) now).service

abbrev pub is_going_if : ℕ → Option ServiceParts → Bool
is_going_if now None = false
is_going_if now (Some s) = is_in_progress (stand_at now s).state

-- a release of the service of this name is going on at a moment
abbrev pub is_going_on : Desk → ℕ → List ℕ → Bool
is_going_on desk now name = is_going_if now (stored_service desk name)

-- or one of some of these services
abbrev pub are_going_on : Desk → ℕ → List (List ℕ) → Bool
are_going_on desk now names = list_any (is_going_on desk now) names

-- a service as it is asked for anew: with its strategy, and its stable version
abbrev pub spec_again : ServiceState → ServiceSpec
spec_again s =
    record {
      name = s.name;
      version = s.stable;
      steps = s.strategy.steps;
      background = s.strategy.background;
    }

-- the command that makes the newest revision of a template anew, if there is such a template
abbrev pub template_again : Desk → List ℕ → Option Command
template_again desk name =
    option_map (λ (t : Template). AddTemplate t.spec) (newest desk.templates name)

-- the command that makes a service anew, as it stands at a moment, if there is such a service
abbrev pub service_again : Desk → ℕ → List ℕ → Option Command
service_again desk now name =
    option_map (λ s. AddService (spec_again (stand_at now s))) (stored_service desk name)

-- the commands that make a desk anew: these templates of it, and then these services
abbrev pub commands_again : Desk → ℕ → List (List ℕ) → List (List ℕ) → List Command
commands_again desk now templates services =
    filter_map (template_again desk) templates ++ filter_map (service_again desk now) services

-- a request of the caller `succeed`, under this number
abbrev pub request_again : ℕ → ℕ → Command → Event
request_again now number command = Request (request_of now (codes "succeed") number command)

-- commands as requests of that caller, all at one moment, numbered from this number on
abbrev pub requests_from : ℕ → ℕ → List Command → List Event
requests_from now number [] = []
requests_from now number (command ∷ commands) =
    request_again now number command ∷ requests_from now (suc number) commands

-- the requests that make a desk anew
abbrev pub requests_again : Desk → ℕ → List (List ℕ) → List (List ℕ) → List Event
requests_again desk now templates services =
    requests_from now 1 (commands_again desk now templates services)

-- a request was accepted
abbrev pub IsAccepted : Answer → Type 0
IsAccepted (Replied reply) = reply.status ≡ Accepted
IsAccepted (Unavailable fault) = ⊥

-- contents became those after these requests, each of which was accepted
abbrev pub Succeeds : List Event → Contents → Contents → Type 0
Succeeds requests old new =
    (new ≡ after old requests)
    × AllByRecursion (λ (r : Reply). r.status ≡ Accepted) (answers_of old requests)
