-- What is decided from what is kept of one service is a step of the machine.
use Rattle.std.proofs.Common.{◌≡◌, ℕ, List, refl, ap, sym, subst, ◌∙◌}
use Rattle.std.specs.Prelude.{Option, Some, None, option_map}
use Rattle.std.specs.FinMap.{get}
use Rattle.canary_plan.specs.declared.service.ServiceSpec.{ServiceSpec}
use Rattle.canary_plan.specs.declared.command.Command.{Command}
use Rattle.canary_plan.specs.declared.line.LineEvent.TheVariants.{Created}
use Rattle.canary_plan.specs.Plans.{Templates, Agree}
use Rattle.canary_plan.specs.Commands.{subject_of, names_looked_up}
use Rattle.canary_release.specs.declared.service.ServiceParts.{ServiceParts}
use Rattle.canary_release.specs.declared.service.Passed.{Passed}
use Rattle.canary_release.specs.declared.state.ServiceState.{ServiceState}
use Rattle.canary_release.specs.declared.runs.Runs.{Runs}
use Rattle.canary_release.specs.declared.effect.Effect.{Effect}
use Rattle.canary_release.specs.declared.transition.Transition.{Transition}
use Rattle.canary_release.specs.declared.decide.Decision.{Decision}
use Rattle.canary_release.specs.Pasts.{no_past, tracked}
use Rattle.canary_release.specs.Watching.{no_runs}
use Rattle.canary_release.specs.Evolutions.{Evolution, RunView, evolution_from, tell}
use Rattle.canary_release.specs.Desks.{ModelService, model_evolution, new_service_state, new_service, Change, ModelDecision, Desk, newest, model_decision, ruling_on, desk_after}
use Rattle.canary_release.specs.Desks.Change.{Nothing, Adds, Becomes}
use Rattle.canary_release.specs.Stored.{stored_evolution, strategy_kept, evolution_of, stored_after, stored_form, change_of, decision_of, desk_with, stored_service, IsStep}
use Rattle.canary_release.specs.Laws.{WatchesAlike}
use Rattle.canary_release.proofs.Alike.{one_watch, rules_alike}
use Rattle.canary_release.proofs.Looking.{looks_only_at}

-- what the code says of a change means that change
changed_said : (desk : Desk) (command : Command) (x : Change) → desk_with desk command (change_of x) ≡ desk_after desk command x
changed_said desk command Nothing = refl
changed_said desk command (Adds t) = refl
changed_said desk command (Becomes c) = refl

-- a service of the model is, to every rule, what is kept of it
one_evolution : WatchesAlike → (found : Option ModelService) → option_map model_evolution found ≡ option_map stored_evolution (option_map stored_form found)
one_evolution alike None = refl
one_evolution alike (Some m) = rules_alike alike (λ (c : Evolution). Some c) m.service m.past (tracked m.past) refl

step_is : (desk : Desk) (now : ℕ) (command : Command) → IsStep desk now command (decision_of (ruling_on desk now command))
step_is desk now command = record { change = refl; desk_after = changed_said desk command (ruling_on desk now command).change; reply = refl }

-- the strategy of an evolution is that of what is kept
same_strategy : (o : Option ServiceParts) → option_map (λ (c : Evolution). c.service.strategy) (option_map stored_evolution o) ≡ option_map strategy_kept o
same_strategy None = refl
same_strategy (Some s) = refl

-- what is ruled on what is kept, with the templates that are looked up, is what the machine rules
same_ruling : WatchesAlike → (desk : Desk) (known : Templates) (o : Option ServiceParts) (now : ℕ) (command : Command) → Agree known (newest desk.templates) (names_looked_up (option_map strategy_kept o) command) → o ≡ stored_service desk (subject_of command)
    → model_decision known (option_map stored_evolution o) now command ≡ ruling_on desk now command
same_ruling alike desk known o now command agree there =
    let found = get desk.services (subject_of command) in
    looks_only_at known (newest desk.templates) (option_map stored_evolution o) now command (subst (λ s. Agree known (newest desk.templates) (names_looked_up s command)) (sym (same_strategy o)) agree)
    ∙ ap (λ (p : Option ServiceParts). model_decision (newest desk.templates) (option_map stored_evolution p) now command) there
    ∙ sym (ap (λ (c : Option Evolution). model_decision (newest desk.templates) c now command) (one_evolution alike found))

-- what is decided from what is kept is the machine's step, if the templates that the command looks up are the desk's
pub told_step : WatchesAlike → (desk : Desk) (known : Templates) (o : Option ServiceParts) (now : ℕ) (command : Command) (r : ModelDecision) (d : Decision) → d ≡ decision_of r → r ≡ model_decision known (option_map stored_evolution o) now command
    → Agree known (newest desk.templates) (names_looked_up (option_map strategy_kept o) command) → o ≡ stored_service desk (subject_of command) → IsStep desk now command d
told_step alike desk known o now command r d says is agree there =
    subst (IsStep desk now command) (sym (says ∙ ap decision_of (is ∙ same_ruling alike desk known o now command agree there))) (step_is desk now command)

pub told_rule : WatchesAlike → (desk : Desk) (known : Templates) (o : Option ServiceParts) (now : ℕ) (command : Command) (d : Decision) → d ≡ decision_of (model_decision known (option_map stored_evolution o) now command)
    → Agree known (newest desk.templates) (names_looked_up (option_map strategy_kept o) command) → o ≡ stored_service desk (subject_of command) → IsStep desk now command d
told_rule alike desk known o now command d says agree there = told_step alike desk known o now command (model_decision known (option_map stored_evolution o) now command) d says refl agree there

-- a new service of the code is that of the model
new_is : WatchesAlike → (spec : ServiceSpec) (now : ℕ) → tell (stored_evolution (record { service = new_service_state spec now; runs = no_runs })) now (Created spec.version) ≡ new_service spec now
new_is alike spec now = ap (λ (w : RunView). tell (evolution_from (new_service_state spec now) w) now (Created spec.version)) (sym (one_watch alike no_past no_runs refl))

pub new_told : WatchesAlike → (spec : ServiceSpec) (now : ℕ) (s : ServiceState) (w : Runs) (c d : Evolution) → s ≡ new_service_state spec now → w ≡ no_runs → c ≡ stored_evolution (record { service = s; runs = w }) → d ≡ tell c now (Created spec.version) → d ≡ new_service spec now
new_told alike spec now s w c d stands none is told =
    told
    ∙ ap (λ (x : Evolution). tell x now (Created spec.version)) (is ∙ (λ i. stored_evolution (record { service = stands i; runs = none i })))
    ∙ new_is alike spec now

-- what a transition ends with is what its evolution ends with
pub ends_as : (d : Transition) (c : Evolution) (r : ServiceParts × List Effect) → r ≡ (stored_after (evolution_of d), (evolution_of d).effects) → evolution_of d ≡ c → ◌≡◌ {A = Passed} (record { service = r.0; effects = r.1 }) (record { service = stored_after c; effects = c.effects })
ends_as d c r ends is = (λ i. record { service = (ends i).0; effects = (ends i).1 }) ∙ (λ i. record { service = stored_after (is i); effects = (is i).effects })
