-- A strategy that nothing refuses keeps the limits of a checked one.
use Rattle.std.proofs.Common.{◌≡◌, ℕ, Bool, true, false, [], ◌∷◌, length, refl, ap, sym, subst, ◌∙◌, arith}
use Rattle.std.specs.Prelude.{◌||◌, ◌&&◌, not, nat_le, nat_lt, None}
use Rattle.std.specs.List.{list_any, list_all}
use Rattle.std.proofs.lemmas.Bool.Decides.{nat_tests}
use Rattle.canary_plan.specs.declared.service.ServiceSpec.{ServiceSpec}
use Rattle.canary_plan.specs.declared.refusal.Refusal.TheVariants.{UnknownTemplate, BadStrategy}
use Rattle.canary_plan.specs.Refusals.{first_that_holds}
use Rattle.canary_plan.specs.declared.strategy.CheckedStrategy.{CheckedStrategy}
use Rattle.canary_plan.specs.Plans.{Templates, strategy_of, has_unknown, is_within_limits, is_background_within_limits, is_accepted}
use Rattle.canary_plan.specs.PlanRefusals.{analyses, is_bad_strategy, strategy_refusal}

neither : (a b : Bool) → (a || b) ≡ false → (a ≡ false) × (b ≡ false)
neither false b h = (refl, h)
neither true b h = cc h

holds : (b : Bool) → not b ≡ false → b ≡ true
holds true h = refl
holds false h = cc h

no_more : (n : ℕ) → nat_lt 64 n ≡ false → nat_le n 64 ≡ true
no_more n h = grind (arith, nat_tests, h)

not_last : (a b : Bool) → first_that_holds ((a, UnknownTemplate) ∷ (b, BadStrategy) ∷ []) ≡ None → b ≡ false
not_last true b h = cc h
not_last false true h = cc h
not_last false false h = refl

pub accepted : (known : Templates) (s : ServiceSpec) (c : CheckedStrategy) → c ≡ strategy_of s → strategy_refusal known s ≡ None → is_accepted c ≡ true
accepted known s c is h =
    let bad = not_last (list_any (has_unknown known) (analyses s)) (is_bad_strategy s) h in
    let limits = list_all is_within_limits s.steps && is_background_within_limits s.background in
    let parts = neither (nat_lt 64 (length s.steps)) (not limits) bad in
    let fits : is_accepted (strategy_of s) ≡ true = ap (λ x. x && limits) (no_more (length s.steps) parts.0) ∙ holds limits parts.1 in
    subst (λ (x : CheckedStrategy). is_accepted x ≡ true) (sym is) fits
