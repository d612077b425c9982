-- A whole number of 10^-places, written with its point.
use Rattle.std.specs.Prelude.{◌≡◌, ◌≢◌, ℕ, ◌*◌, ◌/◌, ◌%◌, ◌^◌, ℤ, pos, int_lt, if◌then◌else◌, ◌*ℤ◌, ◌⊎◌, List, ◌∷◌, ◌++◌, length}
use Rattle.std.specs.Int.RustNames.{unsigned_abs}
use Rattle.std.specs.Fmt.{decimal}
use Rattle.std.specs.Str.Parse.{digits_value}
use Rattle.canary_decimal.specs.Exactness.{Fraction}
use Rattle.canary_decimal.specs.Spelling.{IsDigits, IsTextOf}

-- the digits of r over 10^n after the point, of which the last is not 0
abbrev pub IsFraction : List ℕ → ℕ → ℕ → Type 0
IsFraction ds r n =
    IsDigits ds × (digits_value 10 ds * 10 ^ n ≡ r * 10 ^ length ds)
    × (digits_value 10 ds % 10 ≢ 0)

-- the text is what stands before the point, and the point with what follows if that is not 0
abbrev pub IsBehind : List ℕ → List ℕ → ℕ → ℕ → Type 0
IsBehind front text r n =
    ((r ≡ 0) × (text ≡ front))
    ⊎ ((ds : List ℕ) × (text ≡ front ++ 46 ∷ ds) × IsFraction ds r n)

-- a `-` if the number is below 0, and the digits before the point
abbrev pub front_text : ℤ → ℕ → List ℕ
front_text z whole = if int_lt z (pos 0) then 45 ∷ decimal whole else decimal whole

-- the text is z over 10^n, with no zero before the point but the last digit, and none at the end
-- after it
abbrev pub IsWrittenAs : List ℕ → ℤ → ℕ → Type 0
IsWrittenAs text z n =
    IsBehind (front_text z (unsigned_abs z / 10 ^ n)) text (unsigned_abs z % 10 ^ n) n

-- the text spells the decimal z over 10^n, by the grammar of decimals
abbrev pub Spells : List ℕ → ℤ → ℕ → Type 0
Spells text z n =
    (x : Fraction) × IsTextOf text x × (x.whole *ℤ pos (10 ^ n) ≡ z *ℤ pos (10 ^ x.places))
