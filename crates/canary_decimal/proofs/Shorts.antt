-- Decimals whose number fits an i64.
use Rattle.std.proofs.Common.{Some, ◌≡◌, ℕ, ◌+◌, ◌-◌, ◌*◌, ◌^◌, ◌<◌, min, ℤ, pos, negsuc, Bool, refl, sym, ap, ◌∙◌, arith}
use Rattle.std.specs.Prelude.{int_lt, nat_lt, ◌*ℤ◌}
use Rattle.std.proofs.lemmas.Option.{cond_some}
use Rattle.std.proofs.lemmas.Bool.{ltb-true, le-ltb}
use Rattle.std.specs.Int.RustNames.{unsigned_abs}
use Rattle.std.proofs.lemmas.Nat.{pow-add}
use Rattle.std.proofs.Math.Nat.{mul_assoc}
use Rattle.canary_decimal.specs.declared.decimal.ShortDecimal.{ShortDecimal}
use Rattle.canary_decimal.specs.Exactness.{Fraction, signed, IsConstant}
use Rattle.canary_decimal.specs.Short.{fraction_of, short_constant}
use Rattle.canary_decimal.proofs.Signs.{constant_found, signed_times}

-- a number is its size with its sign
pub with_its_sign : (z : ℤ) → signed (int_lt z (pos 0)) (unsigned_abs z) ≡ z
with_its_sign (pos n) = ap (λ (b : Bool). signed b n) (le-ltb n 0 (omega arith))
with_its_sign (negsuc n) = refl

-- the constant of a decimal, as it is computed
pub constant_holds : (d : ShortDecimal) (n size : ℕ) (t : ℤ) → d.places < n → size ≡ min (2 ^ 64 - 1) (unsigned_abs d.whole * 10 ^ (n - d.places)) → size < 2 ^ 63 → t ≡ signed (int_lt d.whole (pos 0)) size → IsConstant t (fraction_of d) n
constant_holds d n size t more e h is =
    let s : Bool = int_lt d.whole (pos 0) in
    let a : ℕ = unsigned_abs d.whole in
    let tens : ℕ = a * 10 ^ (n - 1 - d.places) in
    let split : 10 ^ (n - d.places) ≡ 10 ^ (n - 1 - d.places) * 10 = ap (λ (k : ℕ). 10 ^ k) (let j : n - d.places ≡ n - 1 - d.places + 1 = omega arith in j) ∙ pow-add 10 (n - 1 - d.places) 1 in
    let whole : a * 10 ^ (n - d.places) ≡ tens * 10 = ap (λ (k : ℕ). a * k) split ∙ sym (mul_assoc a (10 ^ (n - 1 - d.places)) 10) in
    let size_is : size ≡ tens * 10 = omega arith in
    let back : tens * 10 ^ d.places ≡ a * 10 ^ (n - 1) = mul_assoc a (10 ^ (n - 1 - d.places)) (10 ^ d.places) ∙ ap (λ (k : ℕ). a * k) (sym (pow-add 10 (n - 1 - d.places) d.places) ∙ ap (λ (k : ℕ). 10 ^ k) (let j : n - 1 - d.places + d.places ≡ n - 1 = omega arith in j)) in
    let up : 10 ^ (0 + (n - 1)) ≡ 10 ^ (n - 1) = ap (λ (k : ℕ). 10 ^ k) (let j : 0 + (n - 1) ≡ n - 1 = omega arith in j) in
    let one : a * 10 ^ 0 ≡ a = omega arith in
    let seen : ◌≡◌ {A = Fraction} (record { whole = signed s (a * 10 ^ 0); places = d.places }) (fraction_of d) =
    ap (λ (k : ℕ). let f : Fraction = record { whole = signed s k; places = d.places } in f) one ∙ ap (λ (z : ℤ). let f : Fraction = record { whole = z; places = d.places } in f) (with_its_sign d.whole) in
    constant_found t (fraction_of d) s tens a 0 d.places n (omega arith) (is ∙ ap (signed s) size_is) seen (omega arith, back ∙ ap (λ (k : ℕ). a * k) (sym up))

pub short_constants : (d : ShortDecimal) (n : ℕ) (t : ℤ) → d.places < n → short_constant d n ≡ Some t → IsConstant t (fraction_of d) n
short_constants d n t more e =
    let size : ℕ = unsigned_abs d.whole * 10 ^ (n - d.places) in
    let found = cond_some (nat_lt size (2 ^ 63)) (d.whole *ℤ pos (10 ^ (n - d.places))) t e in
    let small : size < 2 ^ 63 = ltb-true size (2 ^ 63) found.0 in
    let number : t ≡ signed (int_lt d.whole (pos 0)) size = sym found.1 ∙ ap (λ (z : ℤ). z *ℤ pos (10 ^ (n - d.places))) (sym (with_its_sign d.whole)) ∙ signed_times (int_lt d.whole (pos 0)) (unsigned_abs d.whole) (10 ^ (n - d.places)) in
    constant_holds d n size t more (omega arith) small number
