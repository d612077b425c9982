use Rattle.std.proofs.Common.{◌≡◌, ℕ, ◌-◌, ◌*◌, ◌^◌, min, ℤ, pos, ap, ◌∙◌, arith, rules}
use Rattle.std.specs.Prelude.{int_lt}
use Rattle.std.specs.Int.{w64}
use Rattle.std.specs.Int.RustNames.{unsigned_abs}
use mir.Val.{to_z, of_z}
use Rattle.canary_decimal.specs.Exactness.{signed}
use Rattle.canary_decimal.proofs.Shorts.{constant_holds}
use Rattle.canary_decimal.proofs.decimal.ShortDecimal.to_constant.Goals as goal

pub returns-clause-constant : goal.returns-clause-constant
returns-clause-constant c =
    let d = c.args.self in
    let n = c.args.places in
    let size = c.with_zeros-size.result in
    let t : ℤ = to_z w64 (of_z w64 c.with_sign.result) in
    let back : t ≡ c.with_sign.result = search rules in
    let own : to_z w64 (of_z w64 d.whole) ≡ d.whole = search rules in
    let is : size ≡ min (2 ^ 64 - 1) (unsigned_abs d.whole * 10 ^ (n - d.places)) = c.with_zeros-size.ensures ∙ ap (λ (k : ℕ). min (2 ^ 64 - 1) (k * 10 ^ (n - d.places))) (c.unsigned_abs.ensures.value ∙ ap unsigned_abs own) in
    let sign : t ≡ signed (int_lt d.whole (pos 0)) size = search rules in
    constant_holds d n size t c.requires.some is (omega arith) sign
