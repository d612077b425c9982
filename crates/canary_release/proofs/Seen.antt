-- What a change brings is what is kept of the service after it.
use Rattle.std.proofs.Common.{◌≡◌, ℕ, ◌+◌, List, refl, ap, sym, ◌∙◌}
use Rattle.std.specs.Prelude.{Option, Some, None, Result, Ok, Err, option_map, cond, true}
use Rattle.std.specs.Ordering.{nat_cmp, eq_by_cmp}
use Rattle.std.specs.Cmp.Lexicographic.{slice_cmp, nat_list_cmp_total}
use Rattle.std.specs.Str.{bytes_eq}
use Rattle.std.proofs.lemmas.Map.Text.{is_eq-slice_cmp}
use Rattle.std.proofs.lemmas.Slice.Eq.{bytes_eq-Decides}
use Rattle.std.specs.FinMap.{get, insert, get-insert}
use Rattle.canary_plan.specs.declared.command.Command.{Command}
use Rattle.canary_plan.specs.declared.command.Command.TheVariants.{Template, Service}
use Rattle.canary_plan.specs.declared.template_spec.TemplateSpec.{TemplateSpec}
use Rattle.canary_plan.specs.declared.template.Template.{Template as Known}
use Rattle.canary_plan.specs.declared.refusal.Refusal.{Refusal}
use Rattle.canary_plan.specs.Plans.{Templates, template_of}
use Rattle.canary_plan.specs.PlanRefusals.{strategy_refusal}
use Rattle.canary_plan.specs.Commands.{subject_of}
use Rattle.canary_release.specs.declared.service.ServiceParts.{ServiceParts}
use Rattle.canary_release.specs.Pasts.{no_past}
use Rattle.canary_release.specs.Evolutions.{Evolution, RunView}
use Rattle.canary_release.specs.Rules.Commands.{ModelResult, unless, succeeds_with}
use Rattle.canary_release.specs.Desks.{ModelService, Desk, Change, rules, after, desk_after, model_evolution, act_new, act_passed, new_service, adds_unless, newest_number, revision_refusal, newest, rule_template, rule_service, model_decision, ruling_on, watch_of}
use Rattle.canary_release.specs.Desks.Change.{Nothing, Adds, Becomes}
use Rattle.canary_release.specs.Stored.{stored_form, stored_after, change_of, stored_by, stored_service, KeepsWhatIsSeen}
use Rattle.canary_release.proofs.Watches.{KeepsIf, acted_passed}

-- an evolution with the view of runs of a service's past ends with what is kept of it afterwards
pub kept_is_seen : (m : ModelService) (command : Command) (c : Evolution) → c.watch ≡ watch_of m.past → stored_form (after (Some m) c.service c.effects) ≡ stored_after c
kept_is_seen m command c same = λ i. record { service = c.service; runs = sym same i c.effects }

-- a change of the service as it was found brings what is kept of it afterwards
abbrev Fits : Option ModelService → Change → Type 0
Fits found Nothing = Unit {0}
Fits found (Adds t) = Unit {0}
Fits found (Becomes c) = stored_form (after found c.service c.effects) ≡ stored_after c

abbrev HasWatch : RunView → Result ModelResult Refusal → Type 0
HasWatch w (Ok a) = a.evolution.watch ≡ w
HasWatch w (Err refusal) = Unit {0}

fits_old : (m : ModelService) (command : Command) (r : Result ModelResult Refusal) → HasWatch (watch_of m.past) r → Fits (Some m) (rules r).change
fits_old m command (Ok a) same = kept_is_seen m command a.evolution same
fits_old m command (Err refusal) same = tt

fits_new : (command : Command) (r : Result ModelResult Refusal) → HasWatch (watch_of no_past) r → Fits None (rules r).change
fits_new command (Ok a) same = λ i. record { service = a.evolution.service; runs = sym same i a.evolution.effects }
fits_new command (Err refusal) same = tt

kept_watch_of : (c : Evolution) (r : Result ModelResult Refusal) → KeepsIf c r → HasWatch c.watch r
kept_watch_of c (Ok a) k = k
kept_watch_of c (Err refusal) k = tt

unless_new : (r : Option Refusal) (a : ModelResult) → a.evolution.watch ≡ watch_of no_past → HasWatch (watch_of no_past) (unless r a)
unless_new None a k = k
unless_new (Some refusal) a k = tt

new_watch : (known : Templates) (command : Command) (now : ℕ) → HasWatch (watch_of no_past) (act_new known command now)
new_watch known (Service spec) now = unless_new (strategy_refusal known spec) (succeeds_with (new_service spec now)) refl
new_watch known command now = tt

fits_service : (known : Templates) (found : Option ModelService) (now : ℕ) (command : Command) → Fits found (rule_service known (option_map model_evolution found) now command).change
fits_service known None now command = fits_new command (act_new known command now) (new_watch known command now)
fits_service known (Some m) now command = fits_old m command (act_passed known command (model_evolution m) now) (kept_watch_of (model_evolution m) (act_passed known command (model_evolution m) now) (acted_passed known command (model_evolution m) now))

fits_adds : (found : Option ModelService) (command : Command) (refusal : Option Refusal) (t : Known) → Fits found (adds_unless refusal t).change
fits_adds found command None t = tt
fits_adds found command (Some refusal) t = tt

fits_template : (found : Option ModelService) (command : Command) (there : Option Known) (spec : TemplateSpec) → Fits found (rule_template there spec).change
fits_template found command there spec = fits_adds found command (revision_refusal (newest_number there) spec) (template_of spec (newest_number there + 1))

pub fits : (known : Templates) (found : Option ModelService) (now : ℕ) (command : Command) → Fits found (model_decision known (option_map model_evolution found) now command).change
fits known found now (Template spec) = fits_template found (Template spec) (known spec.name) spec
fits known found now command = fits_service known found now command

bytes_same : (name : List ℕ) → bytes_eq name name ≡ true
bytes_same name = (bytes_eq-Decides name name).1 refl

same_name : (name : List ℕ) → eq_by_cmp (slice_cmp nat_cmp) name name ≡ true
same_name name = is_eq-slice_cmp name name ∙ bytes_same name

found_there : (desk : Desk) (command : Command) (m : ModelService) → get (insert desk.services (subject_of command) m) (subject_of command) ≡ Some m
found_there desk command m = get-insert nat_list_cmp_total desk.services (subject_of command) m (subject_of command) ∙ ap (λ b. cond b (Some m) (get desk.services (subject_of command))) (same_name (subject_of command))

seen_after : (desk : Desk) (command : Command) (x : Change) (s : ServiceParts) → Fits (get desk.services (subject_of command)) x → stored_by (change_of x) ≡ Some s → stored_service (desk_after desk command x) (subject_of command) ≡ Some s
seen_after desk command Nothing s fit brings = cc brings
seen_after desk command (Adds t) s fit brings = cc brings
seen_after desk command (Becomes c) s fit brings =
    ap (option_map stored_form) (found_there desk command (after (get desk.services (subject_of command)) c.service c.effects)) ∙ ap (λ (k : ServiceParts). Some k) fit ∙ brings

pub keeps_what_is_seen : KeepsWhatIsSeen
keeps_what_is_seen desk now command s brings = seen_after desk command (ruling_on desk now command).change s (fits (newest desk.templates) (get desk.services (subject_of command)) now command) brings
