use Rattle.std.proofs.Common.{◌≡◌, ℕ, ◌+◌, ◌*◌, ◌-◌, ◌^◌, ◌<◌, ℤ, Option, ap, ◌∙◌, sym, subst, rules}
use Rattle.std.specs.Prelude.{MatchOption}
use Rattle.canary_decimal.specs.Exactness.{IsConstant}
use Rattle.std.specs.Int.{w64}
use mir.Val.{to_z, of_z}
use Rattle.std.specs.Str.Parse.{digits_value}
use Rattle.canary_decimal.proofs.Signs.{constant_found, constant_missing}
use Rattle.canary_decimal.proofs.decimal.Decimal.to_constant.Goals as goal

pub returns : goal.returns
returns c =
    let d = c.self.inside in
    let t = c.in_ok-tens.tens in
    let n = c.args.places in
    let number : ℕ = digits_value 10 d.digits.items in
    let z : ℤ = to_z w64 (of_z w64 c.with_sign.result) in
    let back : z ≡ c.with_sign.result = search rules in
    let e = ap (digits_value 10) c.as_slice.ensures.value in
    let fits : t * 10 < 2 ^ 63 = c.in_ok-tens.ensures.0 in
    let found : t * 10 ^ d.places ≡ number * 10 ^ (d.zeros + (n - 1)) = c.in_ok-tens.ensures.1 ∙ ap (λ (k : ℕ). k * 10 ^ (d.zeros + (n - 1))) e in
    constant_found z c.args.self.now d.negative t number d.zeros d.places n c.requires.some (back ∙ c.with_sign.ensures) c.self.view_is (fits, found)

pub returns-in_err-tens : goal.returns-in_err-tens
returns-in_err-tens c =
    let d = c.self.inside in
    let n = c.args.places in
    let number : ℕ = digits_value 10 d.digits.items in
    let e = ap (digits_value 10) c.as_slice.ensures.value in
    let none = λ (t : ℕ) (small : t * 10 < 2 ^ 63) (same : t * 10 ^ d.places ≡ number * 10 ^ (d.zeros + (n - 1))). c.in_err-tens.ensures t small (same ∙ ap (λ (k : ℕ). k * 10 ^ (d.zeros + (n - 1))) (sym e)) in
    let missing = constant_missing c.args.self.now d.negative number d.zeros d.places n c.requires.some c.self.view_is none in
    subst (λ (o : Option ℤ). MatchOption o ((t : ℤ) → IsConstant t c.args.self.now n → ⊥) (λ t. IsConstant t c.args.self.now n)) (sym c.from_residual.ensures) missing
