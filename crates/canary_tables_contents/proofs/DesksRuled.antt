-- What a change of the desk says of its command.
use Rattle.std.proofs.Common.{◌≡◌, ℕ, ◌+◌, List, length, true, false, Some, None, refl, sym, ap, ◌∙◌, subst}
use Rattle.std.specs.Prelude.{Option, option_map, Result, Ok, Err}
use Rattle.std.specs.FinMap.{get}
use Rattle.canary_plan.specs.declared.service.ServiceSpec.{ServiceSpec}
use Rattle.canary_plan.specs.declared.template.Template.{Template}
use Rattle.canary_plan.specs.declared.template_spec.TemplateSpec.{TemplateSpec}
use Rattle.canary_plan.specs.declared.refusal.Refusal.{Refusal}
use Rattle.canary_plan.specs.declared.command.Command.{Command}
use Rattle.canary_plan.specs.declared.command.Command.TheVariants as command
use Rattle.canary_plan.specs.Plans.{Templates, template_of}
use Rattle.canary_plan.specs.PlanRefusals.{strategy_refusal, bound_refusal}
use Rattle.canary_plan.specs.Refusals.{or_refusal}
use Rattle.canary_plan.specs.Commands.{subject_of}
use Rattle.canary_release.specs.declared.effect.Effect.{Effect}
use Rattle.canary_release.specs.declared.service.ServiceParts.{ServiceParts}
use Rattle.canary_release.specs.declared.decide.DeskChange.{DeskChange}
use Rattle.canary_release.specs.declared.decide.DeskChange.TheVariants as change
use Rattle.canary_release.specs.Evolutions.{Evolution}
use Rattle.canary_release.specs.Rules.Commands.{ModelResult, succeeds_with, unless, start_refusal_at, start_refusal, retry_refusal_at, retry_refusal}
use Rattle.canary_release.specs.Rules.Passing.{pass}
use Rattle.canary_release.specs.Desks.{ModelService, RevisionMap, Desk, revisions_of, newest, before, after, made_as, new_service, adds_unless, newest_number, revision_refusal, rule_template, rule_service, rules, passed_on, model_decision, ruling_on, model_evolution, apply}
use Rattle.canary_release.specs.Stored.{stored_form, change_of, desk_with, stored_service, stored_by, KeepsWhatIsSeen}
use Rattle.canary_release.specs.Effects.{Changes, IsChange, CommandsChange}
use Rattle.canary_release.specs.Order.{AreInOrder}
use Rattle.canary_tables_contents.specs.Settling.{begins, makes_service}
use Rattle.canary_tables_contents.proofs.SettledKeys.{at_own_name, some_same}
use Rattle.canary_tables_contents.proofs.PassKeeps.{passing_keeps}

-- A template.

-- it is the command's, and its next revision
pub record IsAdding (templates : RevisionMap) (asked : Command) (t : Template) : Type 0 where
  pub asked_for : asked ≡ command.Template t.spec
  pub number : t.revision ≡ length (revisions_of templates t.spec.name) + 1

adds_that : (x t : Template) (r : Option Refusal) → change.Template t ≡ change_of (adds_unless r x).change → x ≡ t
adds_that x t None e = cc e
adds_that x t (Some refusal) e = let none : ⊥ = cc e in absurd none

adds_by : (o : Option Template) (spec : TemplateSpec) (t : Template) → change.Template t ≡ change_of (rule_template o spec).change → command.Template spec ≡ command.Template t.spec
adds_by o spec t e =
    let number : ℕ = newest_number o in
    ap (λ (x : Template). command.Template x.spec) (adds_that (template_of spec (number + 1)) t (revision_refusal number spec) e)

adds_nothing : (r : Result ModelResult Refusal) (t : Template) → change.Template t ≡ change_of (rules r).change → ⊥
adds_nothing (Ok a) t e = cc e
adds_nothing (Err refusal) t e = cc e

service_adds_nothing : (known : Templates) (found : Option Evolution) (now : ℕ) (asked : Command) (t : Template) → change.Template t ≡ change_of (rule_service known found now asked).change → ⊥
service_adds_nothing known None now asked t e = adds_nothing _ t e
service_adds_nothing known (Some c) now asked t e = adds_nothing _ t e

asked_so : (known : Templates) (found : Option Evolution) (now : ℕ) (asked : Command) (t : Template) → change.Template t ≡ change_of (model_decision known found now asked).change → asked ≡ command.Template t.spec
asked_so known found now (command.Template spec) t e = adds_by (known spec.name) spec t e
asked_so known found now asked t e = absurd (service_adds_nothing known found now asked t e)

pub adding : CommandsChange → (desk : Desk) (now : ℕ) (asked : Command) (t : Template) → AreInOrder desk → change.Template t ≡ change_of (ruling_on desk now asked).change → IsAdding desk.templates asked t
adding commands desk now asked t order is =
    let next : IsChange desk asked (change.Template t) = subst (IsChange desk asked) (sym is) (commands desk now asked order) in
    record {
      asked_for = asked_so (newest desk.templates) _ now asked t is;
      number = next.1 ∙ ap (λ (name : List ℕ). length (revisions_of desk.templates name) + 1) (sym next.0);
    }

-- A service that was not there.

abbrev made_in : ServiceSpec → DeskChange → ServiceSpec
made_in spec (change.Service s effects) = made_as s.service
made_in spec change.Nothing = spec
made_in spec (change.Template t) = spec

made_that : (spec : ServiceSpec) (now : ℕ) (s : ServiceParts) (effects : List Effect) (r : Option Refusal) → change.Service s effects ≡ change_of (rules (unless r (succeeds_with (new_service spec now)))).change
    → command.Service spec ≡ command.Service (made_as s.service)
made_that spec now s effects None e = ap (λ (d : DeskChange). command.Service (made_in spec d)) (sym e)
made_that spec now s effects (Some refusal) e = let none : ⊥ = cc e in absurd none

template_updates_nothing : (t : Template) (s : ServiceParts) (effects : List Effect) (r : Option Refusal) → change.Service s effects ≡ change_of (adds_unless r t).change → ⊥
template_updates_nothing t s effects None e = cc e
template_updates_nothing t s effects (Some refusal) e = cc e

template_updates_none : (spec : TemplateSpec) (s : ServiceParts) (effects : List Effect) (o : Option Template) → change.Service s effects ≡ change_of (rule_template o spec).change → ⊥
template_updates_none spec s effects o e = let number : ℕ = newest_number o in template_updates_nothing (template_of spec (number + 1)) s effects (revision_refusal number spec) e

stays : (s : ServiceParts) (effects : List Effect) → change.Service s effects ≡ change.Nothing → ⊥
stays s effects e = cc e

-- only a command that makes a service changes one that is not there
made_new : (known : Templates) (now : ℕ) (asked : Command) (s : ServiceParts) (effects : List Effect) → change.Service s effects ≡ change_of (model_decision known None now asked).change → asked ≡ command.Service (made_as s.service)
made_new known now (command.Template spec) s effects e = absurd (template_updates_none spec s effects (known spec.name) e)
made_new known now (command.Service spec) s effects e = made_that spec now s effects (strategy_refusal known spec) e
made_new known now asked s effects e = absurd (stays s effects e)

-- and a command that makes a service changes none that is there
none_before : (known : Templates) (found : Option ModelService) (now : ℕ) (asked : Command) (s : ServiceParts) (effects : List Effect) → makes_service asked ≡ true → change.Service s effects ≡ change_of (model_decision known (option_map model_evolution found) now asked).change → found ≡ None
none_before known None now asked s effects makes e = refl
none_before known (Some m) now (command.Service spec) s effects makes e = absurd (stays s effects e)
none_before known (Some m) now asked s effects makes e = absurd (cc)

one_before : (known : Templates) (found : Option ModelService) (now : ℕ) (asked : Command) (s : ServiceParts) (effects : List Effect) → makes_service asked ≡ false → change.Service s effects ≡ change_of (model_decision known (option_map model_evolution found) now asked).change
    → (m : ModelService) × (found ≡ Some m)
one_before known None now asked s effects makes e =
    let made : asked ≡ command.Service (made_as s.service) = made_new known now asked s effects e in
    let no : true ≡ false = sym (ap makes_service made) ∙ makes in absurd (cc)
one_before known (Some m) now asked s effects makes e = (m, refl)

-- An attempt that begins.

unless_none : (r : Option Refusal) (a : ModelResult) (t : ℕ) (s : ServiceParts) (effects : List Effect) → change.Service s effects ≡ change_of (rules (passed_on (unless r a) t)).change → r ≡ None
unless_none None a t s effects e = refl
unless_none (Some refusal) a t s effects e = absurd (stays s effects e)

first_none : (a b : Option Refusal) → or_refusal a b ≡ None → a ≡ None
first_none None b e = refl
first_none (Some refusal) b e = let none : ⊥ = cc e in absurd none

-- nothing refuses to bind its strategy
begun_by : (known : Templates) (m : ModelService) (now : ℕ) (asked : Command) (s : ServiceParts) (effects : List Effect) → begins asked ≡ true → change.Service s effects ≡ change_of (model_decision known (Some (model_evolution m)) now asked).change → bound_refusal known m.service.strategy ≡ None
begun_by known m now (command.Start name version) s effects begin e =
    let c : Evolution = pass (model_evolution m) now in
    let none : start_refusal known c version ≡ None = unless_none (start_refusal known c version) _ _ s effects e in
    ap (bound_refusal known) (sym (passing_keeps (model_evolution m) now)) ∙ first_none (bound_refusal known c.service.strategy) (start_refusal_at c version) none
begun_by known m now (command.Retry name) s effects begin e =
    let c : Evolution = pass (model_evolution m) now in
    let none : retry_refusal known c ≡ None = unless_none (retry_refusal known c) _ _ s effects e in
    ap (bound_refusal known) (sym (passing_keeps (model_evolution m) now)) ∙ first_none (bound_refusal known c.service.strategy) (retry_refusal_at c) none
begun_by known m now asked s effects begin e = absurd (cc)

begun_if : (known : Templates) (found : Option ModelService) (now : ℕ) (asked : Command) (s : ServiceParts) (effects : List Effect) → s.service.strategy ≡ (before found s.service).service.strategy → begins asked ≡ true
    → change.Service s effects ≡ change_of (model_decision known (option_map model_evolution found) now asked).change → bound_refusal known s.service.strategy ≡ None
begun_if known None now asked s effects same begin e =
    let made : asked ≡ command.Service (made_as s.service) = made_new known now asked s effects e in
    let no : false ≡ true = sym (ap begins made) ∙ begin in absurd (cc)
begun_if known (Some m) now asked s effects same begin e = ap (bound_refusal known) same ∙ begun_by known m now asked s effects begin e

-- A service that changes.

-- what happens may happen to the service as it was found; its parts count the runs that it has then; it is there, unless its command makes it; and an attempt begins only if nothing refuses to bind it
pub record IsUpdate (templates : RevisionMap) (found : Option ModelService) (asked : Command) (s : ServiceParts) (effects : List Effect) : Type 0 where
  pub changes : Changes templates found asked s effects
  pub count : s.runs.count ≡ length (after found s.service effects).past.runs
  pub made : found ≡ None → asked ≡ command.Service (made_as s.service)
  pub new : makes_service asked ≡ true → found ≡ None
  pub there : makes_service asked ≡ false → (m : ModelService) × (found ≡ Some m)
  pub begun : begins asked ≡ true → bound_refusal (newest templates) s.service.strategy ≡ None

counted : KeepsWhatIsSeen → (desk : Desk) (now : ℕ) (asked : Command) (s : ServiceParts) (effects : List Effect) → change.Service s effects ≡ change_of (ruling_on desk now asked).change → desk_with desk asked (change.Service s effects) ≡ (apply desk now asked).desk
    → s.runs.count ≡ length (after (get desk.services (subject_of asked)) s.service effects).past.runs
counted law desk now asked s effects is then =
    let name = subject_of asked in
    let m : ModelService = after (get desk.services name) s.service effects in
    let same : s ≡ stored_form m = some_same s (stored_form m) (sym (law desk now asked s (ap stored_by (sym is))) ∙ ap (λ (k : Desk). stored_service k name) (sym then) ∙ ap (option_map stored_form) (at_own_name desk.services name m)) in
    ap (λ (s : ServiceParts). s.runs.count) same

pub updating : CommandsChange → KeepsWhatIsSeen → (desk : Desk) (now : ℕ) (asked : Command) (s : ServiceParts) (effects : List Effect) → AreInOrder desk → change.Service s effects ≡ change_of (ruling_on desk now asked).change → desk_with desk asked (change.Service s effects) ≡ (apply desk now asked).desk
    → (subject_of asked ≡ s.service.name) × IsUpdate desk.templates (get desk.services s.service.name) asked s effects
updating commands keeps desk now asked s effects order is then =
    let found : Option ModelService = get desk.services (subject_of asked) in
    let known : Templates = newest desk.templates in
    let changes : Changes desk.templates found asked s effects = subst (IsChange desk asked) (sym is) (commands desk now asked order) in (
      sym changes.named,
      subst (λ (n : List ℕ). IsUpdate desk.templates (get desk.services n) asked s effects) (sym changes.named) (record {
        changes = changes;
        count = counted keeps desk now asked s effects is then;
        made = λ none. made_new known now asked s effects (subst (λ (o : Option ModelService). change.Service s effects ≡ change_of (model_decision known (option_map model_evolution o) now asked).change) none is);
        new = λ makes. none_before known found now asked s effects makes is;
        there = λ makes. one_before known found now asked s effects makes is;
        begun = λ begin. begun_if known found now asked s effects changes.strategy begin is;
      }),
    )
