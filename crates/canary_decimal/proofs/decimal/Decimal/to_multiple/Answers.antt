use Rattle.std.proofs.Common.{◌≡◌, ℕ, ◌+◌, ℤ, ap, ◌∙◌, subst, rules}
use Rattle.std.specs.Int.{w64}
use mir.Val.{to_z, of_z}
use Rattle.std.specs.Str.Parse.{digits_value}
use Rattle.canary_decimal.specs.Exactness.{IsScaled, IsNear}
use Rattle.canary_decimal.proofs.Signs.{stands_at}
use Rattle.canary_decimal.proofs.Nearness.{next_to}
use Rattle.canary_decimal.proofs.decimal.Decimal.to_multiple.Goals as goal

pub returns-clause-stands : goal.returns-clause-stands
returns-clause-stands c =
    let d = c.self.inside in
    let z : ℤ = to_z w64 (of_z w64 c.with_sign.result) in
    let back : z ≡ c.with_sign.result = search rules in
    let m = c.magnitude-magnitude.result in
    let number : ℕ = digits_value 10 d.digits.items in
    let scaled : IsScaled m number (d.zeros + c.args.places) d.places = subst (λ (n : ℕ). IsScaled m n (d.zeros + c.args.places) d.places) (ap (digits_value 10) c.as_slice.ensures.value) c.magnitude-magnitude.ensures.scaled in
    stands_at z c.args.self.now d.negative m number d.zeros d.places c.args.places (back ∙ c.with_sign.ensures) c.self.view_is scaled

pub returns-clause-near : goal.returns-clause-near
returns-clause-near c =
    let d = c.self.inside in
    let z : ℤ = to_z w64 (of_z w64 c.with_sign.result) in
    let back : z ≡ c.with_sign.result = search rules in
    let m = c.magnitude-magnitude.result in
    let number : ℕ = digits_value 10 d.digits.items in
    let scaled : IsNear m number (d.zeros + c.args.places) d.places = subst (λ (n : ℕ). IsNear m n (d.zeros + c.args.places) d.places) (ap (digits_value 10) c.as_slice.ensures.value) c.magnitude-magnitude.ensures.near in
    next_to z c.args.self.now d.negative m number d.zeros d.places c.args.places (back ∙ c.with_sign.ensures) c.self.view_is scaled
