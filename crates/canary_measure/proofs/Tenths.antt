-- The whole number that a decimal is, by its constant in units of a tenth.
use Rattle.std.proofs.Common.{◌≡◌, ℕ, zero, suc, ◌*◌, ◌^◌, ◌<◌, ℤ, pos, negsuc, Bool, true, false, refl, sym, ap, ◌∙◌, arith}
use Rattle.std.specs.Prelude.{◌/◌, ◌*ℤ◌, int_div}
use Rattle.std.specs.Int.RustNames.{unsigned_abs}
use lib.IntN.{neg_ℤ}
use Rattle.std.proofs.lemmas.Int.{ints}
use Rattle.std.proofs.Math.Nat.{zero-mul, mul_right_comm}
use Rattle.canary_decimal.specs.Exactness.{signed, Fraction, IsConstant}
use Rattle.canary_measure.specs.Wholes.{IsWholeOf}

signed_times : (s : Bool) (n k : ℕ) → signed s n *ℤ pos k ≡ signed s (n * k)
signed_times false n k = refl
signed_times true zero k = rw (zero-mul k)
signed_times true (suc n) k = refl

size_of : (s : Bool) (n : ℕ) → unsigned_abs (signed s n) ≡ n
size_of false n = refl
size_of true zero = refl
size_of true (suc n) = refl

below_zero : (m : ℕ) → int_div (neg_ℤ (pos m)) (pos 10) ≡ neg_ℤ (pos (m / 10))
below_zero zero = refl
below_zero (suc m) = refl

tenth_is : (n : ℕ) → n * 10 / 10 ≡ n
tenth_is n = omega arith

quotient : (s : Bool) (n : ℕ) → int_div (signed s (n * 10)) (pos 10) ≡ signed s n
quotient false n = ap pos (tenth_is n)
quotient true n = below_zero (n * 10) ∙ ap (λ (k : ℕ). neg_ℤ (pos k)) (tenth_is n)

tenth : (s z : Bool) (a b : ℕ) → signed s (a * 10) ≡ signed z (b * 10) → signed s a ≡ signed z b
tenth false false a b e = omega (arith, ints)
tenth false true a b e = omega (arith, ints)
tenth true false a b e = omega (arith, ints)
tenth true true a b e = omega (arith, ints)

tenth_of : (s : Bool) (a : ℕ) (w : ℤ) → signed s (a * 10) ≡ w *ℤ pos 10 → signed s a ≡ w
tenth_of s a (pos b) e = tenth s false a b e
tenth_of s a (negsuc b) e = tenth s true a (suc b) (e ∙ signed_times true (suc b) 10)

pub whole_found : (x : Fraction) (t z : ℤ) → IsConstant t x 1 → z ≡ int_div t (pos 10) → IsWholeOf x z
whole_found x t z (s, tens, e, fits, same) is =
    let unit : ℕ = 10 ^ x.places in
    let number : z ≡ signed s tens = is ∙ ap (λ (y : ℤ). int_div y (pos 10)) e ∙ quotient s tens in
    let times : signed s (tens * 10 * unit) ≡ x.whole *ℤ pos 10 = sym (signed_times s (tens * 10) unit) ∙ ap (λ (y : ℤ). y *ℤ pos unit) (sym e) ∙ same in
    let value : signed s (tens * unit) ≡ x.whole = tenth_of s (tens * unit) x.whole (ap (signed s) (sym (mul_right_comm tens 10 unit)) ∙ times) in
    let size : unsigned_abs z ≡ tens = ap unsigned_abs number ∙ size_of s tens in
    (ap (λ (y : ℤ). y *ℤ pos unit) number ∙ signed_times s tens unit ∙ value, omega arith)

constant_of : (x : Fraction) (s : Bool) (n : ℕ) → signed s n *ℤ pos (10 ^ x.places) ≡ x.whole → n * 10 < 2 ^ 63 → IsConstant (signed s (n * 10)) x 1
constant_of x s n e fits =
    let unit : ℕ = 10 ^ x.places in
    (s, n, refl, fits, signed_times s (n * 10) unit ∙ ap (signed s) (mul_right_comm n 10 unit) ∙ sym (signed_times s (n * unit) 10) ∙ ap (λ (y : ℤ). y *ℤ pos 10) (sym (signed_times s n unit) ∙ e))

pub whole_missing : (x : Fraction) → ((t : ℤ) → IsConstant t x 1 → ⊥) → (z : ℤ) → IsWholeOf x z → ⊥
whole_missing x none (pos n) (e, fits) = none (signed false (n * 10)) (constant_of x false n e fits)
whole_missing x none (negsuc n) (e, fits) = none (signed true (suc n * 10)) (constant_of x true (suc n) e fits)
