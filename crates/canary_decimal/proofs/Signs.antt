-- Numbers with signs that compare alike.
use Rattle.std.proofs.Common.{◌≡◌, ℕ, zero, suc, ◌+◌, ◌*◌, ◌-◌, ◌^◌, ◌<◌, ◌≤◌, ℤ, pos, negsuc, Bool, true, false, inl, inr, refl, sym, ap, ◌∙◌, subst, arith}
use Rattle.std.specs.Prelude.{◌⊎◌, ◌<ℤ◌, ◌≤ℤ◌, ◌*ℤ◌}
use lib.IntN.{neg_ℤ}
use Rattle.std.proofs.lemmas.Int.{ints}
use Rattle.std.proofs.Math.Nat.{zero-mul, mul_assoc, mul_right_comm, pow-suc}
use Rattle.std.proofs.lemmas.Nat.{pow-add}
use Rattle.canary_condition.specs.declared.condition.Comparison.{Comparison}
use Rattle.canary_condition.specs.declared.condition.Comparison.TheVariants.{Equal, NotEqual, Less, AtMost, Greater, AtLeast}
use Rattle.canary_condition.specs.Meaning.{compares}
use Rattle.canary_decimal.specs.Exactness.{signed, Alike, IsScaled, Fraction, StandsFor, IsConstant}
use Rattle.canary_decimal.proofs.Alike.{alike_times, pow_over_zero}

abbrev pub AlikeInt : ℤ → ℤ → ℤ → ℤ → Type 0
AlikeInt m t a b = ((m <ℤ t) × (a <ℤ b)) ⊎ (((m ≡ t) × (a ≡ b)) ⊎ ((t <ℤ m) × (b <ℤ a)))

-- and so any comparison says the same of both
pub alike_compares : (c : Comparison) (m t a b : ℤ) → AlikeInt m t a b → compares c m t ≡ compares c a b
alike_compares Equal m t a b h = grind (arith, ints)
alike_compares NotEqual m t a b h = grind (arith, ints)
alike_compares Less m t a b h = grind (arith, ints)
alike_compares AtMost m t a b h = grind (arith, ints)
alike_compares Greater m t a b h = grind (arith, ints)
alike_compares AtLeast m t a b h = grind (arith, ints)

pub alike_turned : (m t a b : ℤ) → AlikeInt m t a b → AlikeInt t m b a
alike_turned m t a b (inl h) = inr (inr (h.0, h.1))
alike_turned m t a b (inr (inl h)) = inr (inl (sym h.0, sym h.1))
alike_turned m t a b (inr (inr h)) = inl (h.0, h.1)

pub positive : (m t a b : ℕ) → Alike m t a b → AlikeInt (pos m) (pos t) (pos a) (pos b)
positive m t a b (inl w) = inl (omega (arith, ints), omega (arith, ints))
positive m t a b (inr (inl w)) = inr (inl (ap pos w.0, ap pos w.1))
positive m t a b (inr (inr w)) = inr (inr (omega (arith, ints), omega (arith, ints)))

pub negative : (m t a b : ℕ) → Alike m t a b → AlikeInt (neg_ℤ (pos m)) (neg_ℤ (pos t)) (neg_ℤ (pos a)) (neg_ℤ (pos b))
negative m t a b (inl w) = inr (inr (omega (arith, ints), omega (arith, ints)))
negative m t a b (inr (inl w)) = inr (inl (ap (λ (n : ℕ). neg_ℤ (pos n)) w.0, ap (λ (n : ℕ). neg_ℤ (pos n)) w.1))
negative m t a b (inr (inr w)) = inl (omega (arith, ints), omega (arith, ints))

-- a number that is not below 0, and a constant that is not above it
crossing : (m t a b : ℕ) → Alike m 0 a 0 → Alike t 0 b 0 → AlikeInt (pos m) (neg_ℤ (pos t)) (pos a) (neg_ℤ (pos b))
crossing m t a b (inl w) v = absurd (omega arith)
crossing m t a b (inr (inl w)) (inl v) = absurd (omega arith)
crossing m t a b (inr (inl w)) (inr (inl v)) = inr (inl (omega (arith, ints), omega (arith, ints)))
crossing m t a b (inr (inl w)) (inr (inr v)) = inr (inr (omega (arith, ints), omega (arith, ints)))
crossing m t a b (inr (inr w)) (inl v) = absurd (omega arith)
crossing m t a b (inr (inr w)) (inr (inl v)) = inr (inr (omega (arith, ints), omega (arith, ints)))
crossing m t a b (inr (inr w)) (inr (inr v)) = inr (inr (omega (arith, ints), omega (arith, ints)))

pub signed_alike : (s z : Bool) (m t a b : ℕ) → Alike m t a b → Alike m 0 a 0 → Alike t 0 b 0 → AlikeInt (signed s m) (signed z t) (signed s a) (signed z b)
signed_alike false false m t a b h f g = positive m t a b h
signed_alike true true m t a b h f g = negative m t a b h
signed_alike false true m t a b h f g = crossing m t a b f g
signed_alike true false m t a b h f g = alike_turned (pos t) (neg_ℤ (pos m)) (pos b) (neg_ℤ (pos a)) (crossing t m b a g f)

pub signed_times : (s : Bool) (n k : ℕ) → signed s n *ℤ pos k ≡ signed s (n * k)
signed_times false n k = refl
signed_times true zero k = rw (zero-mul k)
signed_times true (suc n) k = refl

-- the law, from that of the magnitude
pub stands : (s : Bool) (m number zeros places n : ℕ) → IsScaled m number (zeros + n) places → StandsFor (signed s m) (record { whole = signed s (number * 10 ^ zeros); places = places }) n
stands s m number zeros places n scaled c z tens small =
    let d : ℕ = number * 10 ^ zeros in
    let t : ℕ = tens * 10 in
    let a : ℕ = d * 10 ^ n in
    let b : ℕ = t * 10 ^ places in
    let same : number * 10 ^ (zeros + n) ≡ a = ap (λ (k : ℕ). number * k) (pow-add 10 zeros n) ∙ sym (mul_assoc number (10 ^ zeros) (10 ^ n)) in
    let w = subst (λ (x : ℕ). Alike m t x b) same (scaled tens small) in
    let nothing : 0 * 10 * 10 ^ places ≡ 0 = zero-mul (10 ^ places) in
    let from_zero = subst (λ (x : ℕ). Alike m 0 a x) nothing (subst (λ (x : ℕ). Alike m 0 x (0 * 10 * 10 ^ places)) same (scaled 0 (omega arith))) in
    let constant_zero = subst (λ (x : ℕ). Alike t 0 b x) (zero-mul (10 ^ places)) (alike_times t 0 (10 ^ places) (pow_over_zero places)) in
    let v = signed_alike s z m t a b w from_zero constant_zero in
    let left = signed_times s d (10 ^ n) in
    let right = signed_times z t (10 ^ places) in (
      alike_compares c (signed s m) (signed z t) (signed s a) (signed z b) v ∙ sym (ap (λ (x : ℤ). compares c x (signed z b)) left) ∙ sym (ap (λ (x : ℤ). compares c (signed s d *ℤ pos (10 ^ n)) x) right),
      alike_compares c (signed z t) (signed s m) (signed z b) (signed s a) (alike_turned (signed s m) (signed z t) (signed s a) (signed z b) v) ∙ sym (ap (λ (x : ℤ). compares c x (signed s a)) right) ∙ sym (ap (λ (x : ℤ). compares c (signed z t *ℤ pos (10 ^ places)) x) left),
    )

pub stands_at : (z : ℤ) (x : Fraction) (s : Bool) (m number zeros places n : ℕ) → z ≡ signed s m → record { whole = signed s (number * 10 ^ zeros); places = places } ≡ x → IsScaled m number (zeros + n) places → StandsFor z x n
stands_at z x s m number zeros places n e f scaled =
    subst (λ (y : ℤ). StandsFor y x n) (sym e) (subst (λ (y : Fraction). StandsFor (signed s m) y n) f (stands s m number zeros places n scaled))

-- ---- constants

same_magnitude : (s z : Bool) (a b : ℕ) → signed s a ≡ signed z b → a ≡ b
same_magnitude false false a b e = omega (arith, ints)
same_magnitude false true a b e = omega (arith, ints)
same_magnitude true false a b e = omega (arith, ints)
same_magnitude true true a b e = omega (arith, ints)

-- with one zero less, and a multiple of ten
tens_are : (t number zeros places n : ℕ) → 1 ≤ n → t * 10 ^ places ≡ number * 10 ^ (zeros + (n - 1)) → t * 10 * 10 ^ places ≡ number * 10 ^ zeros * 10 ^ n
tens_are t number zeros places n some e =
    let a : t * 10 * 10 ^ places ≡ t * 10 ^ places * 10 = mul_right_comm t 10 (10 ^ places) in
    let b : number * 10 ^ (zeros + (n - 1)) * 10 ≡ number * 10 ^ (zeros + n) = mul_assoc number (10 ^ (zeros + (n - 1))) 10 ∙ ap (λ (k : ℕ). number * k) (sym (pow-suc 10 (zeros + (n - 1))) ∙ ap (λ (k : ℕ). 10 ^ k) (omega arith)) in
    let c : number * 10 ^ (zeros + n) ≡ number * 10 ^ zeros * 10 ^ n = ap (λ (k : ℕ). number * k) (pow-add 10 zeros n) ∙ sym (mul_assoc number (10 ^ zeros) (10 ^ n)) in
    a ∙ ap (λ (k : ℕ). k * 10) e ∙ b ∙ c

tens_back : (t number zeros places n : ℕ) → 1 ≤ n → t * 10 * 10 ^ places ≡ number * 10 ^ zeros * 10 ^ n → t * 10 ^ places ≡ number * 10 ^ (zeros + (n - 1))
tens_back t number zeros places n some e =
    let a : t * 10 * 10 ^ places ≡ t * 10 ^ places * 10 = mul_right_comm t 10 (10 ^ places) in
    let b : number * 10 ^ (zeros + (n - 1)) * 10 ≡ number * 10 ^ (zeros + n) = mul_assoc number (10 ^ (zeros + (n - 1))) 10 ∙ ap (λ (k : ℕ). number * k) (sym (pow-suc 10 (zeros + (n - 1))) ∙ ap (λ (k : ℕ). 10 ^ k) (omega arith)) in
    let c : number * 10 ^ (zeros + n) ≡ number * 10 ^ zeros * 10 ^ n = ap (λ (k : ℕ). number * k) (pow-add 10 zeros n) ∙ sym (mul_assoc number (10 ^ zeros) (10 ^ n)) in
    omega arith

pub constant_found : (z : ℤ) (y : Fraction) (s : Bool) (t number zeros places n : ℕ) → 1 ≤ n → z ≡ signed s (t * 10) → record { whole = signed s (number * 10 ^ zeros); places = places } ≡ y → (t * 10 < 2 ^ 63) × (t * 10 ^ places ≡ number * 10 ^ (zeros + (n - 1))) → IsConstant z y n
constant_found z y s t number zeros places n some e seen found =
    let same = tens_are t number zeros places n some found.1 in
    let it : IsConstant z (record { whole = signed s (number * 10 ^ zeros); places = places }) n =
    (s, t, e, found.0, ap (λ (x : ℤ). x *ℤ pos (10 ^ places)) e ∙ signed_times s (t * 10) (10 ^ places) ∙ ap (signed s) same ∙ sym (signed_times s (number * 10 ^ zeros) (10 ^ n))) in
    subst (λ (x : Fraction). IsConstant z x n) seen it

pub constant_missing : (y : Fraction) (s : Bool) (number zeros places n : ℕ) → 1 ≤ n → record { whole = signed s (number * 10 ^ zeros); places = places } ≡ y → ((t : ℕ) → t * 10 < 2 ^ 63 → t * 10 ^ places ≡ number * 10 ^ (zeros + (n - 1)) → ⊥) → (z : ℤ) → IsConstant z y n → ⊥
constant_missing y s number zeros places n some seen none z constant =
    let it : IsConstant z (record { whole = signed s (number * 10 ^ zeros); places = places }) n = subst (λ (x : Fraction). IsConstant z x n) (sym seen) constant in
    let t = it.1 in
    let same = sym (signed_times it.0 (t * 10) (10 ^ places)) ∙ ap (λ (x : ℤ). x *ℤ pos (10 ^ places)) (sym it.2) ∙ it.4 ∙ signed_times s (number * 10 ^ zeros) (10 ^ n) in
    none t it.3 (tens_back t number zeros places n some (same_magnitude it.0 s (t * 10 * 10 ^ places) (number * 10 ^ zeros * 10 ^ n) same))

-- no number of the size of a multiple lies beyond the greatest one
pub within_most : (z : ℤ) (s : Bool) (m : ℕ) → z ≡ signed s m → m ≤ 9223372036854775803 → (negsuc 9223372036854775802 ≤ℤ z) × (z ≤ℤ pos 9223372036854775803)
within_most z true m e h = (omega (arith, ints), omega (arith, ints))
within_most z false m e h = (omega (arith, ints), omega (arith, ints))
