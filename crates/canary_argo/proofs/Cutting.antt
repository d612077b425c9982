-- A value that is cut off towards 0, compared with a number, is the value compared with whole ones.
use Rattle.std.proofs.Common.{◌≡◌, ℕ, zero, suc, ◌+◌, ◌-◌, ◌*◌, ◌/◌, ◌^◌, ◌<◌, ◌≤◌, min, ℤ, pos, negsuc, Bool, true, false, not, refl, sym, ap, ◌∙◌, arith}
use Rattle.std.specs.Prelude.{◌&&◌, ◌||◌, ◌*ℤ◌, ◌-ℤ◌, neg_ℤ, ◌<ℤ◌, ◌≤ℤ◌, int_lt, int_le, if◌then◌else◌}
use Rattle.std.specs.Ordering.{int_eq}
use Rattle.std.proofs.lemmas.Bool.Decides.{same_from_decides}
use Rattle.std.proofs.lemmas.Int.{ints}
use Rattle.std.proofs.Math.Nat.{div-lt_iff_lt-mul, le-div_iff_mul-le, suc-mul, pow-le-pow_right}
use Rattle.canary_condition.specs.declared.condition.Comparison.{Comparison}
use Rattle.canary_condition.specs.declared.condition.Comparison.TheVariants.{Equal, NotEqual, Less, AtMost, Greater, AtLeast}
use Rattle.canary_condition.specs.Meaning.{compares}
use Rattle.canary_decimal.proofs.Alike.{pow_over_zero}
use Rattle.canary_argo.specs.Meaning.{whole_of}
use Rattle.canary_argo.specs.Translating.{least_from, least_above, edge_of, edge_sign}

-- a power of ten that fits
pub unit_is : (n m : ℕ) → n ≤ 18 → m ≡ min (2 ^ 64 - 1) (1 * 10 ^ n) → (m ≡ 10 ^ n) × (0 < m)
unit_is n m h e =
    let more : 10 ^ n ≤ 10 ^ 18 = pow-le-pow_right {n = 10} (omega arith) h in
    let least = pow_over_zero n in
    let one : 1 * 10 ^ n ≡ 10 ^ n = omega arith in
    (omega arith, omega arith)

-- ---- tests of whole numbers

lt_decides : (a b : ℤ) → (int_lt a b ≡ true → a <ℤ b) × (a <ℤ b → int_lt a b ≡ true)
lt_decides a b = (λ e. omega (arith, ints), λ h. grind (arith, ints))

le_decides : (a b : ℤ) → (int_le a b ≡ true → a ≤ℤ b) × (a ≤ℤ b → int_le a b ≡ true)
le_decides a b = (λ e. omega (arith, ints), λ h. grind (arith, ints))

same_le : (a b c d : ℤ) → (a ≤ℤ b → c ≤ℤ d) → (c ≤ℤ d → a ≤ℤ b) → int_le a b ≡ int_le c d
same_le a b c d f g =
    same_from_decides (int_le a b) (int_le c d) (le_decides a b) ((λ e. g ((le_decides c d).0 e)), (λ h. (le_decides c d).1 (f h)))

same_lt : (a b c d : ℤ) → (a <ℤ b → c ≤ℤ d) → (c ≤ℤ d → a <ℤ b) → int_lt a b ≡ int_le c d
same_lt a b c d f g =
    same_from_decides (int_lt a b) (int_le c d) (lt_decides a b) ((λ e. g ((le_decides c d).0 e)), (λ h. (le_decides c d).1 (f h)))

lt_not_le : (a b : ℤ) → int_lt a b ≡ not (int_le b a)
lt_not_le a b = grind (arith, ints)

le_not_lt : (a b : ℤ) → int_le a b ≡ not (int_lt b a)
le_not_lt a b = grind (arith, ints)

eq_by_le : (a b : ℤ) → int_eq a b ≡ (int_le b a && not (int_lt b a))
eq_by_le a b = grind (arith, ints)

over_zero : (n : ℕ) → int_lt (pos 0) (pos (suc n)) ≡ true
over_zero n = (lt_decides (pos 0) (pos (suc n))).1 (omega (arith, ints))

not_below : (n : ℕ) → int_lt (pos n) (pos 0) ≡ false
not_below n = grind (arith, ints)

some_product : (n u : ℕ) → 0 < u → 0 < suc n * u
some_product n u h = omega (arith, suc-mul n u)

-- ---- the value that is not cut off

edge_one : (b : Bool) (j u : ℕ) (w : ℤ) → b ≡ true → compares (if b then AtLeast else Greater) (w *ℤ pos 1) ((if b then pos (suc j) else pos (suc j) -ℤ pos 1) *ℤ pos u) ≡ int_le (pos (suc j * u)) (w *ℤ pos 1)
edge_one true j u w e = refl
edge_one false j u w e = absurd (grind (arith, e))

edge_minus : (j : ℕ) → edge_of (negsuc j) ≡ negsuc (suc j)
edge_minus j = omega (arith, ints)

pub edge_reached : (k w : ℤ) (u : ℕ) → 0 < u → compares (edge_sign true k) (w *ℤ pos 1) (edge_of k *ℤ pos u) ≡ int_le k (whole_of w u)
edge_reached (pos zero) (pos n) u h =
    same_lt (neg_ℤ (pos (1 * u))) (pos (n * 1)) (pos 0) (pos (n / u)) (λ _. omega (arith, ints)) (λ _. omega (arith, ints))
edge_reached (pos zero) (negsuc n) u h =
    let it = div-lt_iff_lt-mul {k = u} {x = suc n} {y = 1} h in
    same_lt (neg_ℤ (pos (1 * u))) (neg_ℤ (pos (suc n * 1))) (pos 0) (neg_ℤ (pos (suc n / u))) (λ l. let m = it.1 (omega (arith, ints)) in omega (arith, ints)) (λ l. let m = it.0 (omega (arith, ints)) in omega (arith, ints))
edge_reached (pos (suc j)) (pos n) u h =
    let it = le-div_iff_mul-le {k = u} {x = suc j} {y = n} h in
    edge_one (int_lt (pos 0) (pos (suc j))) j u (pos n) (over_zero j)
    ∙ same_le (pos (suc j * u)) (pos (n * 1)) (pos (suc j)) (pos (n / u)) (λ l. let m = it.1 (omega (arith, ints)) in omega (arith, ints)) (λ l. let m = it.0 (omega (arith, ints)) in omega (arith, ints))
edge_reached (pos (suc j)) (negsuc n) u h =
    edge_one (int_lt (pos 0) (pos (suc j))) j u (negsuc n) (over_zero j)
    ∙ same_le (pos (suc j * u)) (neg_ℤ (pos (suc n * 1))) (pos (suc j)) (neg_ℤ (pos (suc n / u))) (λ l. omega (arith, ints)) (λ l. omega (arith, ints))
edge_reached (negsuc j) (pos n) u h =
    ap (λ (e : ℤ). compares Greater (pos (n * 1)) (e *ℤ pos u)) (edge_minus j)
    ∙ same_lt (neg_ℤ (pos (suc (suc j) * u))) (pos (n * 1)) (negsuc j) (pos (n / u)) (λ l. omega (arith, ints)) (λ l. omega (arith, ints, some_product (suc j) u h))
edge_reached (negsuc j) (negsuc n) u h =
    let it = div-lt_iff_lt-mul {k = u} {x = suc n} {y = suc (suc j)} h in
    ap (λ (e : ℤ). compares Greater (neg_ℤ (pos (suc n * 1))) (e *ℤ pos u)) (edge_minus j)
    ∙ same_lt (neg_ℤ (pos (suc (suc j) * u))) (neg_ℤ (pos (suc n * 1))) (negsuc j) (neg_ℤ (pos (suc n / u))) (λ l. let m = it.1 (omega (arith, ints)) in omega (arith, ints)) (λ l. let m = it.0 (omega (arith, ints)) in omega (arith, ints))

sign_below : (b : Bool) (x y : ℤ) → compares (if b then Less else AtMost) x y ≡ not (compares (if b then AtLeast else Greater) x y)
sign_below true x y = lt_not_le x y
sign_below false x y = le_not_lt x y

pub edge_missed : (k w : ℤ) (u : ℕ) → 0 < u → compares (edge_sign false k) (w *ℤ pos 1) (edge_of k *ℤ pos u) ≡ not (int_le k (whole_of w u))
edge_missed k w u h = sign_below (int_lt (pos 0) k) (w *ℤ pos 1) (edge_of k *ℤ pos u) ∙ ap not (edge_reached k w u h)

-- ---- the number that a whole number is compared with

least_one : (b : Bool) (n u : ℕ) → b ≡ true → (if b then pos ((suc n - 1) / u + 1) else neg_ℤ (pos (suc n / u))) ≡ pos ((suc n - 1) / u + 1)
least_one true n u e = refl
least_one false n u e = absurd (grind (arith, e))

above_one : (b : Bool) (n u : ℕ) → b ≡ false → (if b then neg_ℤ (pos ((n - 1) / u)) else pos (n / u + 1)) ≡ pos (n / u + 1)
above_one false n u e = refl
above_one true n u e = absurd (grind (arith, e))

from_holds : (v y : ℤ) (u : ℕ) → 0 < u → int_le v (y *ℤ pos u) ≡ int_le (least_from v u) y
from_holds (pos zero) (pos m) u h =
    same_le (pos 0) (pos (m * u)) (neg_ℤ (pos (0 / u))) (pos m) (λ l. omega (arith, ints)) (λ l. omega (arith, ints))
from_holds (pos zero) (negsuc m) u h =
    let none = (div-lt_iff_lt-mul {k = u} {x = 0} {y = 1} h).1 (omega arith) in
    same_le (pos 0) (neg_ℤ (pos (suc m * u))) (neg_ℤ (pos (0 / u))) (negsuc m) (λ l. absurd (omega (arith, ints, some_product m u h))) (λ l. absurd (omega (arith, ints)))
from_holds (pos (suc n)) (pos m) u h =
    let it = div-lt_iff_lt-mul {k = u} {x = suc n - 1} {y = m} h in
    same_le (pos (suc n)) (pos (m * u)) (pos ((suc n - 1) / u + 1)) (pos m) (λ l. let r = it.1 (omega (arith, ints)) in omega (arith, ints)) (λ l. let r = it.0 (omega (arith, ints)) in omega (arith, ints))
    ∙ ap (λ (z : ℤ). int_le z (pos m)) (sym (least_one (int_lt (pos 0) (pos (suc n))) n u (over_zero n)))
from_holds (pos (suc n)) (negsuc m) u h =
    same_le (pos (suc n)) (neg_ℤ (pos (suc m * u))) (pos ((suc n - 1) / u + 1)) (negsuc m) (λ l. absurd (omega (arith, ints))) (λ l. absurd (omega (arith, ints)))
    ∙ ap (λ (z : ℤ). int_le z (negsuc m)) (sym (least_one (int_lt (pos 0) (pos (suc n))) n u (over_zero n)))
from_holds (negsuc n) (pos m) u h =
    same_le (negsuc n) (pos (m * u)) (neg_ℤ (pos (suc n / u))) (pos m) (λ l. omega (arith, ints)) (λ l. omega (arith, ints))
from_holds (negsuc n) (negsuc m) u h =
    let it = le-div_iff_mul-le {k = u} {x = suc m} {y = suc n} h in
    same_le (negsuc n) (neg_ℤ (pos (suc m * u))) (neg_ℤ (pos (suc n / u))) (negsuc m) (λ l. let r = it.1 (omega (arith, ints)) in omega (arith, ints)) (λ l. let r = it.0 (omega (arith, ints)) in omega (arith, ints))

above_holds : (v y : ℤ) (u : ℕ) → 0 < u → int_lt v (y *ℤ pos u) ≡ int_le (least_above v u) y
above_holds (pos n) (pos m) u h =
    let it = div-lt_iff_lt-mul {k = u} {x = n} {y = m} h in
    same_lt (pos n) (pos (m * u)) (pos (n / u + 1)) (pos m) (λ l. let r = it.1 (omega (arith, ints)) in omega (arith, ints)) (λ l. let r = it.0 (omega (arith, ints)) in omega (arith, ints))
    ∙ ap (λ (z : ℤ). int_le z (pos m)) (sym (above_one (int_lt (pos n) (pos 0)) n u (not_below n)))
above_holds (pos n) (negsuc m) u h =
    same_lt (pos n) (neg_ℤ (pos (suc m * u))) (pos (n / u + 1)) (negsuc m) (λ l. absurd (omega (arith, ints))) (λ l. absurd (omega (arith, ints)))
    ∙ ap (λ (z : ℤ). int_le z (negsuc m)) (sym (above_one (int_lt (pos n) (pos 0)) n u (not_below n)))
above_holds (negsuc n) (pos m) u h =
    same_lt (negsuc n) (pos (m * u)) (neg_ℤ (pos ((suc n - 1) / u))) (pos m) (λ l. omega (arith, ints)) (λ l. omega (arith, ints))
above_holds (negsuc n) (negsuc m) u h =
    let it = le-div_iff_mul-le {k = u} {x = suc m} {y = suc n - 1} h in
    same_lt (negsuc n) (neg_ℤ (pos (suc m * u))) (neg_ℤ (pos ((suc n - 1) / u))) (negsuc m) (λ l. let r = it.1 (omega (arith, ints)) in omega (arith, ints)) (λ l. let r = it.0 (omega (arith, ints)) in omega (arith, ints))

-- what is asked of a whole number
abbrev pub whole_asked : Comparison → ℤ → ℤ → ℤ → Bool
whole_asked Equal from above y = int_le from y && not (int_le above y)
whole_asked NotEqual from above y = not (int_le from y) || int_le above y
whole_asked Less from above y = not (int_le from y)
whole_asked AtMost from above y = not (int_le above y)
whole_asked Greater from above y = int_le above y
whole_asked AtLeast from above y = int_le from y

not_both : (a b : Bool) → not (a && not b) ≡ (not a || b)
not_both true true = refl
not_both true false = refl
not_both false b = refl

equal_holds : (v y : ℤ) (u : ℕ) → 0 < u → int_eq (y *ℤ pos u) v ≡ (int_le (least_from v u) y && not (int_le (least_above v u) y))
equal_holds v y u h =
    eq_by_le (y *ℤ pos u) v ∙ ap (λ (b : Bool). b && not (int_lt v (y *ℤ pos u))) (from_holds v y u h) ∙ ap (λ (b : Bool). int_le (least_from v u) y && not b) (above_holds v y u h)

pub whole_compares : (c : Comparison) (v y : ℤ) (u : ℕ) → 0 < u → compares c (y *ℤ pos u) v ≡ whole_asked c (least_from v u) (least_above v u) y
whole_compares Equal v y u h = equal_holds v y u h
whole_compares NotEqual v y u h =
    ap not (equal_holds v y u h) ∙ not_both (int_le (least_from v u) y) (int_le (least_above v u) y)
whole_compares Less v y u h = lt_not_le (y *ℤ pos u) v ∙ ap not (from_holds v y u h)
whole_compares AtMost v y u h = le_not_lt (y *ℤ pos u) v ∙ ap not (above_holds v y u h)
whole_compares Greater v y u h = above_holds v y u h
whole_compares AtLeast v y u h = from_holds v y u h
