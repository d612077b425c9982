-- Decimals whose number fits an i64.
use Rattle.std.specs.Prelude.{◌≡◌, ◌<◌, ◌^◌, ◌-◌, ◌*◌, nat_lt, if◌then◌else◌, ℕ, ℤ, pos, ◌*ℤ◌, Option, Some, None}
use Rattle.std.specs.Int.RustNames.{unsigned_abs}
use Rattle.canary_decimal.specs.declared.decimal.ShortDecimal.{ShortDecimal}
use Rattle.canary_decimal.specs.Exactness.{Fraction, IsConstant}

abbrev pub fraction_of : ShortDecimal → Fraction
fraction_of d = record { whole = d.whole; places = d.places }

-- the decimal, if its number fits whatever its sign
abbrev pub short_of : Fraction → Option ShortDecimal
short_of x =
    if nat_lt (unsigned_abs x.whole) (2 ^ 63)
    then Some (record { whole = x.whole; places = x.places }) else None

-- the decimal in units of 10^-n, if that fits: n are more places than it has
abbrev pub short_constant : ShortDecimal → ℕ → Option ℤ
short_constant d n =
    if nat_lt (unsigned_abs d.whole * 10 ^ (n - d.places)) (2 ^ 63)
    then Some (d.whole *ℤ pos (10 ^ (n - d.places))) else None

-- the law of the constants of such decimals
abbrev pub ShortConstants : Type 0
ShortConstants =
    (d : ShortDecimal) (n : ℕ) (t : ℤ) → d.places < n → short_constant d n ≡ Some t
    → IsConstant t (fraction_of d) n
