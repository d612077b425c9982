use Rattle.std.proofs.Common.{◌≡◌, ℤ, pos, rules}
use Rattle.std.specs.Prelude.{FitsSigned, int_div}
use Rattle.std.specs.Int.{w64}
use mir.Val.{to_z, of_z}
use Rattle.std.proofs.lemmas.Int.{quot_is, quot_fits}
use Rattle.canary_measure.proofs.Tenths.{whole_found, whole_missing}
use Rattle.canary_measure.proofs.whole.number.Goals as goal

pub returns-in_err-to_constant : goal.returns-in_err-to_constant
returns-in_err-to_constant c =
    rw c.from_residual.ensures (whole_missing c.args.decimal.now c.in_err-to_constant.ensures)

pub returns : goal.returns
returns c =
    let t = c.in_ok-to_constant.field-0 in
    let fits : FitsSigned w64 t = search rules in
    let ten : FitsSigned w64 (pos 10) = search rules in
    let z : ℤ = to_z w64 (of_z w64 (int_div (to_z w64 (of_z w64 t)) (pos 10))) in
    let is : z ≡ int_div t (pos 10) = quot_is w64 t (pos 10) fits ten (quot_fits w64 t (pos 10) fits (search rules)) in
    whole_found c.args.decimal.now t z c.in_ok-to_constant.ensures is
