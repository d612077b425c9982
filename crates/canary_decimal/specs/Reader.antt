-- How a text is read from the left. That what is read is what the grammar spells, and each text of
-- the grammar is read, is a law.
use Rattle.std.specs.Prelude.{◌≡◌, ℕ, ◌==◌, nat_lt, nat_le, ◌&&◌, ◌||◌, Bool, true, false, if◌then◌else◌, List, [], ◌∷◌, length, drop, Option, Some, None, option_map, codes, ◌↔◌}
use Rattle.std.specs.Char.{is_ascii_digit}
use Rattle.std.specs.List.{list_all, position_or_len, before_first}
use Rattle.std.specs.Str.Parse.{digits_value}
use Rattle.std.specs.Str.{bytes_eq}
use Rattle.canary_decimal.specs.declared.reading.Reading.{Reading}
use Rattle.canary_decimal.specs.declared.reading.Reading.TheVariants.{Number, NotANumber, Infinite, MinusInfinite}
use Rattle.canary_decimal.specs.Exactness.{Fraction, decimal_of}
use Rattle.canary_decimal.specs.Spelling.{IsTextOf}

-- one digit or more
abbrev pub is_digits : List ℕ → Bool
is_digits ds = nat_lt 0 (length ds) && list_all is_ascii_digit ds

abbrev pub is_either : ℕ → ℕ → ℕ → Bool
is_either first second b = b == first || b == second

-- the text up to the first of these two bytes, and from there on
abbrev pub up_to : ℕ → ℕ → List ℕ → List ℕ
up_to first second text = before_first (is_either first second) text

abbrev pub from : ℕ → ℕ → List ℕ → List ℕ
from first second text = drop (position_or_len (is_either first second) text) text

-- the number of an exponent's digits
abbrev pub power_of : List ℕ → Option ℕ
power_of digits =
    if is_digits digits && nat_le (length digits) 4 then Some (digits_value 10 digits) else None

-- so many zeros more, or so many places
abbrev pub zeros : Option ℕ → Option (ℕ × ℕ)
zeros power = option_map (λ (n : ℕ). (n, 0)) power

abbrev pub places : Option ℕ → Option (ℕ × ℕ)
places power = option_map (λ (n : ℕ). (0, n)) power

abbrev pub zeros_and_places : List ℕ → Option (ℕ × ℕ)
zeros_and_places [] = None
zeros_and_places (b ∷ digits) =
    if b == 45 then places (power_of digits)
    else (if b == 43 then zeros (power_of digits) else zeros (power_of (b ∷ digits)))

-- the same of what stands after the mantissa, whose first byte is an `e` or `E`
abbrev pub exponent_of : List ℕ → Option (ℕ × ℕ)
exponent_of [] = Some (0, 0)
exponent_of (mark ∷ text) = zeros_and_places text

-- the digits after the point
abbrev pub fraction_of : List ℕ → Option (List ℕ)
fraction_of [] = Some []
fraction_of (point ∷ digits) = if is_digits digits then Some digits else None

abbrev pub with_fraction : List ℕ → Option (List ℕ) → Option (List ℕ × List ℕ)
with_fraction whole fraction =
    if is_digits whole then option_map (λ (ds : List ℕ). (whole, ds)) fraction else None

-- the digits before the point, and those after it
abbrev pub digits_of : List ℕ → Option (List ℕ × List ℕ)
digits_of mantissa = with_fraction (up_to 46 46 mantissa) (fraction_of (from 46 46 mantissa))

abbrev pub made : Bool → Option (List ℕ × List ℕ) → Option (ℕ × ℕ) → Option Fraction
made minus None power = None
made minus (Some digits) None = None
made minus (Some digits) (Some power) = Some (decimal_of minus digits.0 digits.1 power.0 power.1)

abbrev pub unsigned : Bool → List ℕ → Option Fraction
unsigned minus text =
    made minus (digits_of (up_to 101 69 text)) (exponent_of (from 101 69 text))

-- the decimal that a text spells
abbrev pub spelled : List ℕ → Option Fraction
spelled [] = unsigned false []
spelled (b ∷ text) = if b == 45 then unsigned true text else unsigned false (b ∷ text)

-- the reading of a text that is a word
abbrev pub word_of : List ℕ → Option Reading
word_of text =
    if bytes_eq text (codes "NaN") then Some NotANumber
    else (if bytes_eq text (codes "Inf") || bytes_eq text (codes "+Inf") then Some Infinite
    else (if bytes_eq text (codes "-Inf") then Some MinusInfinite else None))

abbrev pub or_number : Option Reading → Option Fraction → Option Reading
or_number (Some word) number = Some word
or_number None number = option_map (λ (x : Fraction). Number x) number

-- what a text says
abbrev pub reading_of : List ℕ → Option Reading
reading_of text = or_number (word_of text) (spelled text)

-- THE LAW OF READING: the decimal that is read is spelled, and each that is spelled is read
abbrev pub ReadsWhatIsSpelled : Type 0
ReadsWhatIsSpelled =
    (text : List ℕ) (x : Fraction) → (spelled text ≡ Some x) ↔ IsTextOf text x
