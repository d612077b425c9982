-- What rules a command: a template beside the services, any other by its service.
use Rattle.std.proofs.Common.{◌≡◌, ℕ, ◌+◌, Bool, true, false, [], ◌∷◌, refl, ap, sym, ◌∙◌}
use Rattle.std.specs.Prelude.{nat_le, Option, Some, None, Result, Ok, Err, IfOk, IsTrue}
use Rattle.canary_plan.specs.declared.service.ServiceSpec.{ServiceSpec}
use Rattle.canary_plan.specs.declared.template_spec.TemplateSpec.{TemplateSpec}
use Rattle.canary_plan.specs.declared.refusal.Refusal.TheVariants.{UnknownService, RevisionsSpent}
use Rattle.canary_plan.specs.declared.command.Command.{Command}
use Rattle.canary_plan.specs.declared.command.Command.TheVariants as command
use Rattle.canary_plan.specs.declared.template.Template.{Template}
use Rattle.canary_plan.specs.Plans.{Templates, template_of}
use Rattle.canary_plan.specs.PlanRefusals.{template_refusal}
use Rattle.canary_plan.specs.Refusals.{first_that_holds, or_refusal}
use Rattle.canary_plan.specs.Commands.{template_in, service_in}
use Rattle.canary_plan.specs.Plans.{is_accepted, are_fit}
use Rattle.canary_plan.specs.declared.refusal.Refusal.{Refusal}
use Rattle.canary_release.specs.declared.service.ServiceParts.{ServiceParts}
use Rattle.canary_release.specs.declared.rules.commands.CommandResult.{CommandResult}
use Rattle.canary_release.specs.Evolutions.{Evolution}
use Rattle.canary_release.specs.Desks.{refuses, adds_unless, revision_refusal, act_passed, rule_template, rule_service, act_new, model_decision}
use Rattle.canary_release.specs.Parts.{is_broken}
use Rattle.canary_release.specs.PartsLaws.{ActingKeepsParts}
use Rattle.canary_release.specs.Stored.{evolution_of, stored_evolution, stored_after, command_result_of, model_result_of}

pub by_template : (known : Templates) (found : Option Evolution) (now : ℕ) (c : Command) (spec : TemplateSpec) → template_in c ≡ Some spec → model_decision known found now c ≡ rule_template (known spec.name) spec
by_template known found now (command.Template s) spec h = cc h
by_template known found now other spec h = cc h

pub by_service : (known : Templates) (found : Option Evolution) (now : ℕ) (c : Command) → template_in c ≡ None → model_decision known found now c ≡ rule_service known found now c
by_service known found now (command.Template s) h = cc h
by_service known found now other h = refl

pub new_by_service : (known : Templates) (now : ℕ) (c : Command) (spec : ServiceSpec) → service_in c ≡ Some spec → act_new known c now ≡ act_new known (command.Service spec) now
new_by_service known now (command.Service s) spec h = cc h
new_by_service known now other spec h = cc h

pub new_unknown : (known : Templates) (now : ℕ) (c : Command) → service_in c ≡ None → act_new known c now ≡ Err UnknownService
new_unknown known now (command.Service s) h = cc h
new_unknown known now other h = refl

-- where a command leads the code, the parts are unbroken
pub acting_keeps : ActingKeepsParts → (known : Templates) (command : Command) (s : ServiceParts) (now : ℕ) (acted : Result CommandResult Refusal) → IsTrue (is_accepted s.service.strategy) → IsTrue (are_fit s.service.bound) → is_broken s ≡ false → model_result_of acted ≡ act_passed known command (stored_evolution s) now → IfOk acted (λ command_result. IsTrue (are_fit command_result.transition.service.bound)) → IfOk acted (λ command_result. is_broken (stored_after (evolution_of command_result.transition)) ≡ false)
acting_keeps law known command s now (Ok command_result) accepted bound unbroken e fit = (law known command s now (command_result_of command_result) accepted bound unbroken (sym e) fit).0
acting_keeps law known command s now (Err refusal) accepted bound unbroken e fit = tt

pub acting_keeps_all : {E : Type 0} → ActingKeepsParts → (known : Templates) (command : Command) (s : ServiceParts) (now : ℕ) (r : Result (Result CommandResult Refusal) E) → IsTrue (is_accepted s.service.strategy) → IsTrue (are_fit s.service.bound) → is_broken s ≡ false
    → IfOk r (λ acted. model_result_of acted ≡ act_passed known command (stored_evolution s) now) → IfOk r (λ acted. IfOk acted (λ command_result. IsTrue (are_fit command_result.transition.service.bound))) → IfOk r (λ acted. IfOk acted (λ command_result. is_broken (stored_after (evolution_of command_result.transition)) ≡ false))
acting_keeps_all law known command s now (Ok acted) accepted bound unbroken e fit = acting_keeps law known command s now acted accepted bound unbroken e fit
acting_keeps_all law known command s now (Err fault) accepted bound unbroken e fit = tt

-- a template that is refused
pub refused_first : (n : ℕ) (spec : TemplateSpec) (refusal : Refusal) → template_refusal spec ≡ Some refusal → refuses refusal ≡ adds_unless (revision_refusal n spec) (template_of spec (n + 1))
refused_first n spec refusal h = sym (ap (λ (r : Option Refusal). adds_unless (or_refusal r (first_that_holds ((nat_le 1000000 n, RevisionsSpent) ∷ []))) (template_of spec (n + 1))) h)

-- the next revision is added, and none if there are as many as there may be, whatever number it
-- had
pub added : (n next : ℕ) (spec : TemplateSpec) (t : Template) → template_refusal spec ≡ None → t ≡ template_of spec next → (nat_le 1000000 n ≡ false → next ≡ n + 1)
    → adds_unless (first_that_holds ((nat_le 1000000 n, RevisionsSpent) ∷ [])) t ≡ adds_unless (revision_refusal n spec) (template_of spec (n + 1))
added n next spec t fine is next_is =
    by (nat_le 1000000 n) next_is
    ∙ sym (ap (λ (r : Option Refusal). adds_unless (or_refusal r (first_that_holds ((nat_le 1000000 n, RevisionsSpent) ∷ []))) (template_of spec (n + 1))) fine)
  where
    by : (b : Bool) → (b ≡ false → next ≡ n + 1) → adds_unless (first_that_holds ((b, RevisionsSpent) ∷ [])) t ≡ adds_unless (first_that_holds ((b, RevisionsSpent) ∷ [])) (template_of spec (n + 1))
    by true e = refl
    by false e = ap (adds_unless None) (is ∙ ap (template_of spec) (e refl))
