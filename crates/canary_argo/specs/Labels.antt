-- What a label ends in whose values are reported in a form. What writes it has a clause that
-- canary_decimal reads it so.
use Rattle.std.specs.Prelude.{ℕ, Bool, true, false, List, [], ◌∷◌, ◌++◌, codes}
use Rattle.std.specs.Fmt.{decimal}
use Rattle.canary_decimal.specs.declared.shown.Units.{Units}
use Rattle.canary_decimal.specs.Endings.{beside_text}
use Rattle.canary_argo.specs.declared.form.Form.{Form}
use Rattle.canary_argo.specs.declared.form.Shape.{Shape}
use Rattle.canary_argo.specs.declared.form.Shape.TheVariants.{One, First, Several, Length}

abbrev pub shape_text : Shape → List ℕ
shape_text One = []
shape_text First = codes "f"
shape_text (Several most) = 112 ∷ decimal most
shape_text (Length most) = 108 ∷ decimal most

abbrev pub suffix_of : Form → List ℕ
suffix_of form = codes ".e"
    ++ (decimal form.places ++ (beside_text form.beside ++ shape_text form.shape))

-- whether the first value of a list is a length
abbrev pub has_length : Shape → Bool
has_length One = false
has_length First = false
has_length (Several most) = false
has_length (Length most) = true

abbrev pub units_of : Form → Units
units_of form =
    record { places = form.places; beside = form.beside; length = has_length form.shape }
