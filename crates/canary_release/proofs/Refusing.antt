-- A command that is refused leaves the desk as it was.
use Rattle.std.proofs.Common.{◌≡◌, ◌⊎◌, inl, inr, ℕ, ◌+◌, refl, ap}
use Rattle.std.specs.Prelude.{Option, Some, None, option_map, Result, Ok, Err}
use Rattle.std.specs.FinMap.{get}
use Rattle.canary_plan.specs.Commands.{subject_of}
use Rattle.canary_plan.specs.declared.template_spec.TemplateSpec.{TemplateSpec}
use Rattle.canary_plan.specs.declared.template.Template.{Template as Known}
use Rattle.canary_plan.specs.declared.command.Command.{Command}
use Rattle.canary_plan.specs.declared.command.Command.TheVariants.{Template}
use Rattle.canary_plan.specs.declared.refusal.Refusal.{Refusal}
use Rattle.canary_plan.specs.Plans.{Templates, template_of}
use Rattle.canary_release.specs.declared.reply.ReplyStatus.TheVariants.{Accepted, Refused}
use Rattle.canary_release.specs.Evolutions.{Evolution}
use Rattle.canary_release.specs.Rules.Commands.{ModelResult}
use Rattle.canary_release.specs.Desks.{ModelDecision, model_evolution, newest, rules, adds_unless, newest_number, revision_refusal, rule_template, rule_service, act_new, act_passed, model_decision, ruling_on, Desk, desk_after}
use Rattle.canary_release.specs.Desks.Change.{Nothing}
use Rattle.canary_release.specs.Laws.{RefusalsLeaveTheDesk}

-- it is accepted, or it is refused and changes nothing
abbrev IsClear : ModelDecision → Type 0
IsClear r = (r.reply.status ≡ Accepted) ⊎ ((r.reply.status ≡ Refused) × (r.change ≡ Nothing))

clear_rules : (r : Result ModelResult Refusal) → IsClear (rules r)
clear_rules (Ok a) = inl refl
clear_rules (Err refusal) = inr (refl, refl)

clear_adds : (refusal : Option Refusal) (t : Known) → IsClear (adds_unless refusal t)
clear_adds None t = inl refl
clear_adds (Some refusal) t = inr (refl, refl)

clear_template : (found : Option Known) (spec : TemplateSpec) → IsClear (rule_template found spec)
clear_template found spec = clear_adds (revision_refusal (newest_number found) spec) (template_of spec (newest_number found + 1))

clear_service : (known : Templates) (found : Option Evolution) (now : ℕ) (command : Command) → IsClear (rule_service known found now command)
clear_service known None now command = clear_rules (act_new known command now)
clear_service known (Some c) now command = clear_rules (act_passed known command c now)

clear : (known : Templates) (found : Option Evolution) (now : ℕ) (command : Command) → IsClear (model_decision known found now command)
clear known found now (Template spec) = clear_template (known spec.name) spec
clear known found now command = clear_service known found now command

leaves : (desk : Desk) (command : Command) (r : ModelDecision) → IsClear r → (r.reply.status ≡ Accepted) ⊎ ((r.reply.status ≡ Refused) × (desk_after desk command r.change ≡ desk))
leaves desk command r (inl accepted) = inl accepted
leaves desk command r (inr refused) = inr (refused.0, ap (desk_after desk command) refused.1)

pub refusals_leave_the_desk : RefusalsLeaveTheDesk
refusals_leave_the_desk desk now command = leaves desk command (ruling_on desk now command) (clear (newest desk.templates) (option_map model_evolution (get desk.services (subject_of command))) now command)
