-- What the label of a metric ends in whose numbers are reported in decimals, and how these numbers
-- are shown.
use Rattle.std.specs.Prelude.{◌≡◌, ℕ, ◌+◌, ◌-◌, ◌==◌, nat_le, ◌<◌, ◌≤◌, ◌&&◌, Bool, true, false, if◌then◌else◌, ◌⊎◌, ℤ, pos, negsuc, MatchOption, is_some, List, [], ◌∷◌, ◌++◌, length, min, Option, Some, None, option_map, codes}
use Rattle.std.specs.Ordering.{int_eq}
use Rattle.std.specs.Fmt.{decimal}
use Rattle.canary_decimal.specs.declared.shown.Beside.{Beside}
use Rattle.canary_decimal.specs.declared.shown.Beside.TheVariants.{Nothing, NaN, Infinite, Null, FloatText, WholeText}
use Rattle.canary_decimal.specs.declared.shown.Units.{Units}
use Rattle.canary_decimal.specs.declared.shown.SpecialValue.{SpecialValue}
use Rattle.canary_decimal.specs.declared.shown.SpecialValue.TheVariants.{NaN as NaNWord, MinusInfinite as MinusInfiniteWord, Null as NullWord, Infinite as InfiniteWord}
use Rattle.canary_decimal.specs.Spelling.{IsDigits}
use Rattle.canary_decimal.specs.Reader.{is_digits}
use Rattle.canary_decimal.specs.Points.{IsWrittenAs}

-- nothing, or the first value of a list alone, or so many values; or the length and so many values
abbrev pub IsShape : Bool → List ℕ → Type 0
IsShape false text =
    (text ≡ []) ⊎ ((text ≡ codes "f") ⊎ ((ds : List ℕ) × IsDigits ds × (text ≡ 112 ∷ ds)))
IsShape true text = (ds : List ℕ) × IsDigits ds × (text ≡ 108 ∷ ds)

abbrev pub beside_text : Beside → List ℕ
beside_text Nothing = []
beside_text NaN = codes "n"
beside_text Infinite = codes "i"
beside_text Null = codes "s"
beside_text FloatText = codes "t"
beside_text WholeText = codes "w"

-- `.e`, the places, a letter if more than decimals is reported, and the shape
abbrev pub IsEnding : List ℕ → Units → Type 0
IsEnding text u =
    (6 ≤ u.places) × (u.places ≤ 18) × ((shape : List ℕ) × IsShape u.length shape
    × (text ≡ codes ".e" ++ (decimal u.places ++ (beside_text u.beside ++ shape))))

-- the label is the name, which is not empty, and an ending
abbrev pub IsLabelOf : List ℕ → List ℕ → Units → Type 0
IsLabelOf label name u =
    (0 < length name) × ((ending : List ℕ) × (label ≡ name ++ ending) × IsEnding ending u)

-- THE LAW OF ENDINGS: a label is read as one name and one ending at most
abbrev pub OneEnding : Type 0
OneEnding =
    (label first second : List ℕ) (u v : Units) → IsLabelOf label first u → IsLabelOf label second v
    → (first ≡ second) × (u ≡ v)

-- ---- the same, read from the left

-- whether values with this shape begin with a length
abbrev pub by_letter : ℕ → List ℕ → Option Bool
by_letter letter rest =
    if letter == 102 && length rest == 0 then Some false
    else (if letter == 112 && is_digits rest then Some false
    else (if letter == 108 && is_digits rest then Some true else None))

abbrev pub shape_of : List ℕ → Option Bool
shape_of [] = Some false
shape_of (b ∷ rest) = by_letter b rest

abbrev pub units_with : ℕ → Beside → Bool → Units
units_with places beside length = record { places = places; beside = beside; length = length }

abbrev pub with_shape : ℕ → Beside → List ℕ → Option Units
with_shape places beside shape =
    option_map (units_with places beside) (shape_of shape)

abbrev pub with_beside : ℕ → List ℕ → Option Units
with_beside places [] = with_shape places Nothing []
with_beside places (b ∷ rest) =
    if b == 110 then with_shape places NaN rest
    else (if b == 105 then with_shape places Infinite rest
    else (if b == 115 then with_shape places Null rest
    else (if b == 116 then with_shape places FloatText rest
    else (if b == 119 then with_shape places WholeText rest
    else with_shape places Nothing (b ∷ rest)))))

abbrev pub of_one_digit : List ℕ → Option Units
of_one_digit [] = None
of_one_digit (d ∷ rest) = if nat_le 54 d && nat_le d 57 then with_beside (d - 48) rest else None

abbrev pub of_two_digits : List ℕ → Option Units
of_two_digits [] = None
of_two_digits (d ∷ rest) =
    if nat_le 48 d && nat_le d 56 then with_beside (10 + (d - 48)) rest else None

abbrev pub of_places : List ℕ → Option Units
of_places [] = None
of_places (d ∷ rest) = if d == 49 then of_two_digits rest else of_one_digit (d ∷ rest)

abbrev pub after_point : List ℕ → Option Units
after_point [] = None
after_point (e ∷ rest) = if e == 101 then of_places rest else None

abbrev pub units_of : List ℕ → Option Units
units_of [] = None
units_of (point ∷ rest) = if point == 46 then after_point rest else None

-- ---- numbers

-- what is reported at this place of a list, or alone, is a length
abbrev pub is_length : Units → Option ℕ → Bool
is_length u None = false
is_length u (Some place) = u.length && place == 0

-- what a number stands for, if that is no decimal
abbrev pub nan_or : ℤ → Option SpecialValue → Option SpecialValue
nan_or z other = if int_eq z (negsuc 9223372036854775807) then Some NaNWord else other

abbrev pub infinite_or : ℤ → Option SpecialValue → Option SpecialValue
infinite_or z other =
    if int_eq z (negsuc 9223372036854775806) then Some MinusInfiniteWord
    else (if int_eq z (pos 9223372036854775807) then Some InfiniteWord else other)

abbrev pub null_of : ℤ → Option SpecialValue
null_of z = if int_eq z (negsuc 9223372036854775805) then Some NullWord else None

abbrev pub word_of : Beside → ℤ → Option SpecialValue
word_of Nothing z = None
word_of NaN z = nan_or z None
word_of Infinite z = nan_or z (infinite_or z None)
word_of Null z = nan_or z (infinite_or z (null_of z))
word_of FloatText z = nan_or z None
word_of WholeText z = None

abbrev pub word_text : SpecialValue → List ℕ
word_text NaNWord = codes "NaN"
word_text MinusInfiniteWord = codes "-Inf"
word_text NullWord = codes "null"
word_text InfiniteWord = codes "+Inf"

-- the same of a number at a place
abbrev pub word_at : Units → Option ℕ → ℤ → Option SpecialValue
word_at u place z = if is_length u place then None else word_of u.beside z

abbrev pub is_nan : Units → Option ℕ → ℤ → Bool
is_nan u place z = is_some (word_at u place z)

abbrev pub places_at : Units → Option ℕ → ℕ
places_at u place = if is_length u place then 0 else min u.places 18

-- the text is what people read in place of a number: a word, or the number with its point
abbrev pub IsShownAs : Units → Option ℕ → ℤ → List ℕ → Type 0
IsShownAs u place z text =
    MatchOption (word_at u place z) (IsWrittenAs text z (places_at u place))
    (λ word. text ≡ word_text word)
