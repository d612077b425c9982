-- Texts as Go's package strconv reads them: by ParseFloat, and by ParseInt with base 10.
--     float    := [sign] ("inf" | "infinity") | "nan" | [sign] mantissa [exponent]
--     mantissa := digits ["." [digits]] | "." digits
--     whole    := [sign] digits
--     sign     := "-" | "+"
-- Letters may be small or capital. ParseFloat also reads hexadecimal numbers, numbers with `_`,
-- exponents of more than four digits, and sizes from 10^308 to 1.8 x 10^308. These are not read here.
use Rattle.std.specs.Prelude.{ℕ, ◌+◌, ◌-◌, ◌==◌, nat_lt, nat_le, ◌&&◌, ◌||◌, not, Bool, true, false, if◌then◌else◌, List, [], ◌∷◌, ◌++◌, length, map, Option, Some, None, option_map, codes}
use Rattle.std.specs.Char.{is_ascii_digit, to_ascii_lowercase}
use Rattle.std.specs.List.{list_all, position_or_len}
use Rattle.std.specs.Str.Parse.{digits_value}
use Rattle.std.specs.Str.{bytes_eq}
use Rattle.canary_decimal.specs.declared.reading.Reading.{Reading}
use Rattle.canary_decimal.specs.declared.reading.Reading.TheVariants.{Number, NotANumber, Infinite, MinusInfinite}
use Rattle.canary_decimal.specs.declared.text.TextNumber.{TextNumber}
use Rattle.canary_decimal.specs.declared.text.TextNumber.TheVariants.{Whole, Float, Other}
use Rattle.canary_decimal.specs.Exactness.{Fraction, decimal_of}
use Rattle.canary_decimal.specs.Reader.{is_digits, up_to, from, exponent_of}

-- the digits after the point, of which there may be none
abbrev pub float_fraction : List ℕ → Option (List ℕ)
float_fraction [] = Some []
float_fraction (point ∷ ds) = if list_all is_ascii_digit ds then Some ds else None

abbrev pub with_whole : List ℕ → Option (List ℕ) → Option (List ℕ × List ℕ)
with_whole whole None = None
with_whole whole (Some fraction) =
    if list_all is_ascii_digit whole && nat_lt 0 (length whole + length fraction)
    then Some (whole, fraction) else None

-- the digits before the point and those after it: one or more
abbrev pub float_digits : List ℕ → Option (List ℕ × List ℕ)
float_digits mantissa = with_whole (up_to 46 46 mantissa) (float_fraction (from 46 46 mantissa))

abbrev pub is_some_digit : ℕ → Bool
is_some_digit b = not (b == 48)

-- whether the number of these digits, with so many zeros after them, over so many places, is less
-- than 10^308
abbrev pub is_in_range : List ℕ → ℕ → ℕ → Bool
is_in_range digits zeros places =
    let first = position_or_len is_some_digit digits in
    first == length digits || nat_le (length digits - first + zeros) (308 + places)

abbrev pub float_of : Bool → Option (List ℕ × List ℕ) → Option (ℕ × ℕ) → Option Fraction
float_of minus None power = None
float_of minus (Some digits) None = None
float_of minus (Some digits) (Some power) =
    if is_in_range (digits.0 ++ digits.1) power.0 (length digits.1 + power.1)
    then Some (decimal_of minus digits.0 digits.1 power.0 power.1) else None

abbrev pub unsigned_float : Bool → List ℕ → Option Fraction
unsigned_float minus text =
    float_of minus (float_digits (up_to 101 69 text)) (exponent_of (from 101 69 text))

abbrev pub is_infinity : List ℕ → Bool
is_infinity text =
    bytes_eq (map to_ascii_lowercase text) (codes "inf")
    || bytes_eq (map to_ascii_lowercase text) (codes "infinity")

abbrev pub infinity : Bool → Reading
infinity true = MinusInfinite
infinity false = Infinite

-- what follows a sign
abbrev pub signed_float : Bool → List ℕ → Option Reading
signed_float minus text =
    if is_infinity text then Some (infinity minus)
    else option_map (λ (x : Fraction). Number x) (unsigned_float minus text)

abbrev pub plain_float : List ℕ → Option Reading
plain_float text =
    if bytes_eq (map to_ascii_lowercase text) (codes "nan") then Some NotANumber
    else signed_float false text

-- what ParseFloat reads in a text
abbrev pub parse_float : List ℕ → Option Reading
parse_float [] = plain_float []
parse_float (b ∷ text) =
    if b == 45 then signed_float true text
    else (if b == 43 then signed_float false text else plain_float (b ∷ text))

-- the greatest size of a whole number of 64 bits, by its sign
abbrev pub most : Bool → ℕ
most true = 9223372036854775808
most false = 9223372036854775807

-- the whole number of digits, if it fits 64 bits with its sign
abbrev pub signed_whole : Bool → List ℕ → Option Fraction
signed_whole minus digits =
    if is_digits digits && nat_le (digits_value 10 digits) (most minus)
    then Some (decimal_of minus digits [] 0 0) else None

-- what ParseInt reads in a text
abbrev pub parse_int : List ℕ → Option Fraction
parse_int [] = signed_whole false []
parse_int (b ∷ text) =
    if b == 45 then signed_whole true text
    else (if b == 43 then signed_whole false text else signed_whole false (b ∷ text))

abbrev pub or_float : Option Fraction → Option Reading → TextNumber
or_float (Some x) reading = Whole x
or_float None (Some reading) = Float reading
or_float None None = Other

-- what both read in it
abbrev pub number_of : List ℕ → TextNumber
number_of text = or_float (parse_int text) (parse_float text)
