-- In which form the values of a metric are reported, by its label alone.
use Rattle.std.specs.Prelude.{◌≡◌, ℕ, ◌+◌, ◌-◌, ◌==◌, nat_le, ◌≤◌, ◌<◌, ◌&&◌, if◌then◌else◌, List, [], ◌∷◌, ◌++◌, length, Option, Some, None, codes}
use Rattle.std.specs.Fmt.{decimal}
use Rattle.canary_decimal.specs.declared.shown.Units.{Units}
use Rattle.canary_decimal.specs.Endings.{beside_text}
use Rattle.canary_argo.specs.declared.form.Form.{Form}
use Rattle.canary_argo.specs.declared.form.Shape.{Shape}
use Rattle.canary_argo.specs.declared.form.Shape.TheVariants.{One, First, Several, Length}
use Rattle.canary_argo.specs.Labels.{suffix_of}

-- 2 to 16 values of a list, or its length and 15 values at most
abbrev pub IsShapeWithin : Shape → Type 0
IsShapeWithin One = Unit {0}
IsShapeWithin First = Unit {0}
IsShapeWithin (Several most) = (2 ≤ most) × (most ≤ 16)
IsShapeWithin (Length most) = most ≤ 15

-- a form that a label may have
abbrev pub IsWithin : Form → Type 0
IsWithin form = (6 ≤ form.places) × (form.places ≤ 18) × IsShapeWithin form.shape

-- the label is the name, which is not empty, and what the form is written as
abbrev pub IsLabelIn : List ℕ → List ℕ → Form → Type 0
IsLabelIn label name form = (0 < length name) × IsWithin form × (label ≡ name ++ suffix_of form)

-- THE LAW OF FORMS: a label has one name and one form at most
abbrev pub OneForm : Type 0
OneForm =
    (label first second : List ℕ) (a b : Form) → IsLabelIn label first a → IsLabelIn label second b
    → (first ≡ second) × (a ≡ b)

-- what stands before the shape in an ending
abbrev pub front_of : Units → List ℕ
front_of u = codes ".e" ++ (decimal u.places ++ beside_text u.beside)

-- ---- the shape, read from the left

-- a count up to 16, of one digit
abbrev pub digit_in : ℕ → Option ℕ
digit_in d = if nat_le 48 d && nat_le d 57 then Some (d - 48) else None

-- a count up to 16 by its second digit
abbrev pub teen_in : ℕ → Option ℕ
teen_in d = if nat_le 48 d && nat_le d 54 then Some (10 + (d - 48)) else None

abbrev pub count_in : List ℕ → Option ℕ
count_in [] = None
count_in (d ∷ []) = digit_in d
count_in (t ∷ d ∷ []) = if t == 49 then teen_in d else None
count_in (t ∷ d ∷ e ∷ ds) = None

abbrev pub several : Option ℕ → Option Shape
several None = None
several (Some most) = if nat_le 2 most then Some (Several most) else None

abbrev pub with_length : Option ℕ → Option Shape
with_length None = None
with_length (Some most) = if nat_le most 15 then Some (Length most) else None

abbrev pub by_letter : ℕ → List ℕ → Option Shape
by_letter letter rest =
    if letter == 102 && length rest == 0 then Some First
    else (if letter == 112 then several (count_in rest)
    else (if letter == 108 then with_length (count_in rest) else None))

abbrev pub shape_in : List ℕ → Option Shape
shape_in [] = Some One
shape_in (letter ∷ rest) = by_letter letter rest
