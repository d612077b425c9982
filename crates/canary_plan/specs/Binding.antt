-- Steps of binding a template.
use Rattle.std.specs.Prelude.{◌≡◌, Bool, true, false, Result, Ok, Err}
use Rattle.canary_plan.specs.declared.refusal.Refusal.TheVariants.{BadCondition}
use Rattle.canary_plan.specs.declared.fault.BindFault.{BindFault}
use Rattle.canary_plan.specs.declared.fault.BindFault.TheVariants as bind

-- what is read if no condition is bad, or that one is; out of memory at any point
abbrev pub IsReadUnless : {A : Type 0} → Bool → A → Result A BindFault → Type 0
IsReadUnless bad value (Ok found) = (bad ≡ false) × (found ≡ value)
IsReadUnless bad value (Err (bind.Refused refusal)) = (bad ≡ true) × (refusal ≡ BadCondition)
IsReadUnless bad value (Err bind.Memory) = Unit {0}
