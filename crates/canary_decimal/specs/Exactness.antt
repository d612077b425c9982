-- Decimals, exactly, and the whole numbers that stand for them in a desk's conditions.
use Rattle.std.specs.Prelude.{◌≡◌, ℕ, ◌+◌, ◌*◌, ◌^◌, ◌%◌, ◌<◌, ◌==◌, ℤ, pos, ◌*ℤ◌, Bool, true, false, if◌then◌else◌, ◌⊎◌, Option, MatchOption, List, ◌++◌, length}
use Rattle.std.specs.Str.Parse.{digits_value}
use lib.IntN.{neg_ℤ}
use Rattle.std.specs.Int.RustNames.{unsigned_abs}
use Rattle.canary_condition.specs.declared.condition.Comparison.{Comparison}
use Rattle.canary_condition.specs.Meaning.{compares}

-- a decimal: a whole number over a power of ten
pub record Fraction : Type 0 where
  pub whole : ℤ
  pub places : ℕ

-- a number with a sign before it, or none
abbrev pub signed : Bool → ℕ → ℤ
signed true n = neg_ℤ (pos n)
signed false n = pos n

-- whether a comparison of two decimals holds: that of their numbers over one power of ten
abbrev pub compares_exactly : Comparison → Fraction → Fraction → Bool
compares_exactly c x y =
    compares c (x.whole *ℤ pos (10 ^ y.places)) (y.whole *ℤ pos (10 ^ x.places))

-- the whole number m compares to each constant as the decimal x does, whichever stands first, if
-- a constant is a multiple of ten of 10^-n that fits an i64
abbrev pub StandsFor : ℤ → Fraction → ℕ → Type 0
StandsFor m x n =
    (c : Comparison) (minus : Bool) (tens : ℕ) → tens * 10 < 2 ^ 63
    → let constant = signed minus (tens * 10) in
    let y : Fraction = record { whole = constant; places = n } in
    (compares c m constant ≡ compares_exactly c x y)
    × (compares c constant m ≡ compares_exactly c y x)

-- the decimal of digits before the point and after it, times a power of ten: so many zeros more, or
-- so many places more
abbrev pub decimal_of : Bool → List ℕ → List ℕ → ℕ → ℕ → Fraction
decimal_of minus whole fraction zeros more =
    record {
      whole = signed minus (digits_value 10 (whole ++ fraction) * 10 ^ zeros);
      places = length fraction + more;
    }

-- m is to t as a is to b
abbrev pub Alike : ℕ → ℕ → ℕ → ℕ → Type 0
Alike m t a b = ((m < t) × (a < b)) ⊎ (((m ≡ t) × (a ≡ b)) ⊎ ((t < m) × (b < a)))

-- m is to each constant as the number, with so many zeros after it and so many places, is to it
abbrev pub IsScaled : ℕ → ℕ → ℕ → ℕ → Type 0
IsScaled m number zeros places =
    (tens : ℕ) → tens * 10 < 2 ^ 63
    → Alike m (tens * 10) (number * 10 ^ zeros) (tens * 10 * 10 ^ places)

-- m differs by less than one from the number with so many zeros after it over so many places,
-- unless that lies beyond the greatest multiple
abbrev pub IsNear : ℕ → ℕ → ℕ → ℕ → Type 0
IsNear m number zeros places =
    number * 10 ^ zeros < 9223372036854775803 * 10 ^ places
    → (m * 10 ^ places < number * 10 ^ zeros + 10 ^ places)
    × (number * 10 ^ zeros < (m + 1) * 10 ^ places)

-- the size of z differs by less than one from that of the decimal in units of 10^-n: so z is the
-- decimal if that is whole
abbrev pub IsNextTo : ℤ → Fraction → ℕ → Type 0
IsNextTo z x n =
    let size = unsigned_abs x.whole * 10 ^ n in
    let unit = 10 ^ x.places in
    size < 9223372036854775803 * unit
    → (unsigned_abs z * unit < size + unit) × (size < (unsigned_abs z + 1) * unit)

-- the number of the digits that are kept: its last one is not 0 if others than zeros were cut off
abbrev pub cut_off : ℕ → ℕ → ℕ
cut_off front rest = if rest == 0 then front else (if front % 10 == 0 then front + 1 else front)

-- t is the decimal y in units of 10^-n: a multiple of ten of them that fits an i64
abbrev pub IsConstant : ℤ → Fraction → ℕ → Type 0
IsConstant t y n =
    (minus : Bool) × (tens : ℕ) × (t ≡ signed minus (tens * 10)) × (tens * 10 < 2 ^ 63)
    × (t *ℤ pos (10 ^ y.places) ≡ y.whole *ℤ pos (10 ^ n))

-- THE LAW: what stands for a decimal compares to the constants of a condition as the decimal does
-- to the decimals that the condition had, whichever side each stands on
abbrev pub ComparesAsDecimals : Type 0
ComparesAsDecimals =
    (m t : ℤ) (x y : Fraction) (n : ℕ) → StandsFor m x n → IsConstant t y n
    → (c : Comparison)
    → (compares c m t ≡ compares_exactly c x y) × (compares c t m ≡ compares_exactly c y x)

-- t is the number, with so many zeros after it, over so many places: t a constant's tens
abbrev pub IsTens : Option ℕ → ℕ → ℕ → ℕ → Type 0
IsTens result number zeros places =
    MatchOption result
    ((t : ℕ) → t * 10 < 2 ^ 63 → t * 10 ^ places ≡ number * 10 ^ zeros → ⊥)
    (λ t. (t * 10 < 2 ^ 63) × (t * 10 ^ places ≡ number * 10 ^ zeros))
