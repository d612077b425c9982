-- How a text spells a decimal, as Prometheus and JSON write it:
--     text     := ["-"] mantissa [exponent]
--     mantissa := digits ["." digits]
--     exponent := ("e" | "E") ["-" | "+"] digits, of which there are four at most
-- The relation splits the whole text at each level.
use Rattle.std.specs.Prelude.{◌≡◌, ℕ, ◌≤◌, ◌<◌, Bool, true, false, IsTrue, List, [], ◌∷◌, ◌++◌, length, ◌⊎◌, codes}
use Rattle.std.specs.Char.{is_ascii_digit}
use Rattle.std.specs.List.{list_all}
use Rattle.std.specs.Str.Parse.{digits_value}
use Rattle.canary_decimal.specs.declared.reading.Reading.{Reading}
use Rattle.canary_decimal.specs.declared.reading.Reading.TheVariants.{Number, NotANumber, Infinite, MinusInfinite}
use Rattle.canary_decimal.specs.Exactness.{Fraction, decimal_of}

-- one digit or more
abbrev pub IsDigits : List ℕ → Type 0
IsDigits ds = (0 < length ds) × IsTrue (list_all is_ascii_digit ds)

-- the digits of an exponent
abbrev pub IsShort : List ℕ → Type 0
IsShort ds = IsDigits ds × (length ds ≤ 4)

-- the digits of an exponent after its sign, or with none: so many zeros more, or so many places
abbrev pub IsPower : List ℕ → ℕ → ℕ → Type 0
IsPower text zeros more =
    (digits : List ℕ) × IsShort digits
    × (((text ≡ 45 ∷ digits) × (zeros ≡ 0) × (more ≡ digits_value 10 digits))
    ⊎ (((text ≡ 43 ∷ digits) ⊎ (text ≡ digits)) × (zeros ≡ digits_value 10 digits) × (more ≡ 0)))

-- no exponent, or an `e` or `E` and a power
abbrev pub IsExponent : List ℕ → ℕ → ℕ → Type 0
IsExponent [] zeros more = (zeros ≡ 0) × (more ≡ 0)
IsExponent (mark ∷ text) zeros more = ((mark ≡ 101) ⊎ (mark ≡ 69)) × IsPower text zeros more

-- digits, and no point or a point and digits
abbrev pub IsMantissa : List ℕ → List ℕ → List ℕ → Type 0
IsMantissa text whole fraction =
    IsDigits whole
    × ((text ≡ whole) × (fraction ≡ []) ⊎ (text ≡ whole ++ 46 ∷ fraction) × IsDigits fraction)

abbrev pub IsUnsignedText : List ℕ → Bool → Fraction → Type 0
IsUnsignedText text minus x =
    (front : List ℕ) × (back : List ℕ) × (text ≡ front ++ back)
    × (whole : List ℕ) × (fraction : List ℕ) × IsMantissa front whole fraction
    × (zeros : ℕ) × (more : ℕ) × IsExponent back zeros more
    × (x ≡ decimal_of minus whole fraction zeros more)

-- the text spells the decimal
abbrev pub IsTextOf : List ℕ → Fraction → Type 0
IsTextOf text x =
    IsUnsignedText text false x
    ⊎ ((rest : List ℕ) × (text ≡ 45 ∷ rest) × IsUnsignedText rest true x)

-- what a text is read as
abbrev pub ReadsAs : List ℕ → Reading → Type 0
ReadsAs text (Number x) = IsTextOf text x
ReadsAs text NotANumber = text ≡ codes "NaN"
ReadsAs text Infinite = (text ≡ codes "Inf") ⊎ (text ≡ codes "+Inf")
ReadsAs text MinusInfinite = text ≡ codes "-Inf"
