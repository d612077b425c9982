use Rattle.std.proofs.Common.{◌≡◌, ℕ, ◌<◌, List, Option, Some, drop, sym, ap, ◌∙◌, subst}
use Rattle.std.specs.Prelude.{MatchOption}
use Rattle.canary_decimal.specs.declared.shown.Shown.{Shown}
use Rattle.canary_decimal.specs.declared.shown.Units.{Units}
use Rattle.canary_decimal.specs.Endings.{units_of, IsLabelOf}
use Rattle.canary_decimal.proofs.EndingLemmas.{none_there, found_there}
use Rattle.canary_decimal.proofs.shown.Shown.of.Goals as goal

pub returns-in_err-place : goal.returns-in_err-place
returns-in_err-place c =
    let label = c.args.label.now in
    let same = c.as_bytes.ensures.value in
    let nowhere : (place : ℕ) (v : Units) → 0 < place → units_of (drop place label) ≡ Some v → ⊥ = λ place v some found. c.in_err-place.ensures place v some (ap (λ (t : List ℕ). units_of (drop place t)) same ∙ found) in
    let none : (name : List ℕ) (units : Units) → IsLabelOf label name units → ⊥ = λ name units is. none_there label name units nowhere is in
    subst (λ (o : Option Shown). MatchOption o ((name : List ℕ) (units : Units) → IsLabelOf label name units → ⊥) (λ shown. IsLabelOf label shown.name.now shown.units)) (sym c.from_residual.ensures) none

pub returns : goal.returns
returns c =
    found_there c.args.label.now c.as_bytes.result.now c.range.result.now c.in_ok-place.place c.in_ok-place.units c.as_bytes.ensures.value c.range.ensures.value c.in_ok-place.ensures.0 c.in_ok-place.ensures.1 c.in_ok-place.ensures.2
