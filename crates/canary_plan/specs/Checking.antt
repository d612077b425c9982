-- What binding a template, and checking and binding a strategy answer.
use Rattle.std.specs.Prelude.{◌≡◌, ℕ, Some, None, Result, Ok, Err}
use Rattle.canary_plan.specs.declared.service.ServiceSpec.{ServiceSpec}
use Rattle.canary_plan.specs.declared.template_spec.TemplateSpec.{TemplateSpec}
use Rattle.canary_plan.specs.declared.template.Template.{Template}
use Rattle.canary_plan.specs.declared.strategy.CheckedStrategy.{CheckedStrategy}
use Rattle.canary_plan.specs.declared.bound.BoundParts.{BoundParts}
use Rattle.canary_plan.specs.declared.fault.BindFault.{BindFault}
use Rattle.canary_plan.specs.declared.fault.BindFault.TheVariants as bind
use Rattle.canary_plan.specs.declared.fault.CheckFault.{CheckFault}
use Rattle.canary_plan.specs.declared.fault.CheckFault.TheVariants as check
use Rattle.canary_plan.specs.Plans.{Templates, template_of, strategy_of, bound_of}
use Rattle.canary_plan.specs.PlanRefusals.{template_refusal, strategy_refusal, bound_refusal}

-- the template of that revision if nothing refuses it, or the refusal that holds; out of memory
-- at any point
abbrev pub IsBound : TemplateSpec → ℕ → Result Template BindFault → Type 0
IsBound spec revision (Ok template) =
    (template_refusal spec ≡ None) × (template ≡ template_of spec revision)
IsBound spec revision (Err (bind.Refused refusal)) = template_refusal spec ≡ Some refusal
IsBound spec revision (Err bind.Memory) = Unit {0}

-- the strategy if nothing refuses it, or the refusal that holds; out of memory at any point
abbrev pub IsChecked : Templates → ServiceSpec → Result CheckedStrategy CheckFault → Type 0
IsChecked known spec (Ok strategy) =
    (strategy_refusal known spec ≡ None) × (strategy ≡ strategy_of spec)
IsChecked known spec (Err (check.Refused refusal)) = strategy_refusal known spec ≡ Some refusal
IsChecked known spec (Err check.Memory) = Unit {0}

-- what the strategy is bound to if nothing refuses it, or the refusal that holds; out of memory
-- at any point
abbrev pub IsBoundTo : Templates → CheckedStrategy → Result BoundParts CheckFault → Type 0
IsBoundTo known s (Ok bound) = (bound_refusal known s ≡ None) × (bound ≡ bound_of known s)
IsBoundTo known s (Err (check.Refused refusal)) = bound_refusal known s ≡ Some refusal
IsBoundTo known s (Err check.Memory) = Unit {0}
