-- The desk's condition for one of Argo Rollouts.
use Rattle.std.specs.Prelude.{◌≡◌, ◌==◌, nat_lt, nat_le, not, ◌&&◌, ◌||◌, ◌^◌, ◌+◌, ◌-◌, ◌/◌, ℕ, suc, ℤ, pos, neg_ℤ, ◌-ℤ◌, int_lt, Bool, true, false, if◌then◌else◌, List, [], ◌++◌, Option, Some, None, is_some, codes}
use Rattle.std.specs.Int.RustNames.{unsigned_abs}
use Rattle.std.specs.List.{flat_map}
use Rattle.std.specs.Fmt.{signed_decimal, decimal}
use Rattle.canary_condition.specs.declared.condition.Comparison.{Comparison}
use Rattle.canary_condition.specs.declared.condition.Comparison.TheVariants.{Equal, NotEqual, Less, AtMost, Greater, AtLeast}
use Rattle.canary_condition.specs.declared.condition.Operand.{Operand}
use Rattle.canary_condition.specs.declared.condition.Operand.TheVariants.{Whole as WholeOperand, Item as ItemOperand, Number as NumberOperand}
use Rattle.canary_condition.specs.declared.outcome.Value.{Value}
use Rattle.canary_condition.specs.Meaning.{compares, value}
use Rattle.canary_condition.specs.Trees.{Tree as DeskTree}
use Rattle.canary_condition.specs.Reading.{IsConditionText}
use Rattle.canary_decimal.specs.declared.decimal.ShortDecimal.{ShortDecimal}
use Rattle.canary_decimal.specs.Short.{short_constant}
use Rattle.canary_argo.specs.declared.condition.Item.{Item}
use Rattle.canary_argo.specs.declared.condition.Item.TheVariants.{Or, And, Not, Open, Close, Compare, NaN, Inf}
use Rattle.canary_argo.specs.declared.condition.Function.{Function}
use Rattle.canary_argo.specs.declared.condition.Function.TheVariants.{Plain, AsFloat, AsInt, Default}
use Rattle.canary_argo.specs.declared.condition.ResultPart.{ResultPart}
use Rattle.canary_argo.specs.declared.condition.ResultPart.TheVariants.{Whole, Item as ItemPlace, Length as LengthPlace}
use Rattle.canary_argo.specs.declared.condition.Test.{Test}
use Rattle.canary_argo.specs.declared.form.Form.{Form}
use Rattle.canary_argo.specs.declared.form.Shape.{Shape}
use Rattle.canary_argo.specs.declared.form.Shape.TheVariants.{One, First, Several, Length as LengthShape}
use Rattle.canary_argo.specs.declared.translating.DeskAtom.{DeskAtom}
use Rattle.canary_argo.specs.declared.translating.DeskAtom.TheVariants.{One as OneTest, Both, Either, All}
use Rattle.canary_argo.specs.declared.translating.DeskTest.{DeskTest}
use Rattle.canary_argo.specs.Grouping.{SpellsItems}
use Rattle.canary_condition.specs.Spelling.Level.{AtOr}
use Rattle.canary_argo.specs.Meaning.{Measured, argo_value}
use Rattle.canary_argo.specs.Reporting.{nan, minus_infinite, infinite, null, has_nan, has_infinite, has_null, is_plain, IsBetween, IsReported}
use Rattle.canary_argo.specs.Tokens.{IsMadeOf, is_held}
use Rattle.canary_argo.specs.Spelling.{IsArgo}
use Rattle.canary_argo.specs.Trees.{Tree}
use Rattle.canary_argo.specs.declared.condition.ArgoToken.{ArgoToken}

-- the operand for a place, if the shape has it
abbrev pub desk_place : Shape → ResultPart → Option Operand
desk_place One Whole = Some WholeOperand
desk_place First (ItemPlace i) = if i == 0 then Some WholeOperand else None
desk_place (Several most) (ItemPlace i) =
    if nat_lt i most && nat_lt most 17 then Some (ItemOperand i) else None
desk_place (LengthShape most) LengthPlace = Some (ItemOperand 0)
desk_place (LengthShape most) (ItemPlace i) =
    if nat_lt i most && nat_lt most 16 then Some (ItemOperand (suc i)) else None
desk_place shape place = None

-- the comparison with its sides changed
abbrev pub turned : Comparison → Comparison
turned Equal = Equal
turned NotEqual = NotEqual
turned Less = Greater
turned AtMost = AtLeast
turned Greater = Less
turned AtLeast = AtMost

abbrev pub in_turn : Bool → Comparison → Comparison
in_turn true c = turned c
in_turn false c = c

-- the constant of a number, if it has fewer places than are reported
abbrev pub constant_of : ShortDecimal → ℕ → Option ℤ
constant_of d places =
    if nat_lt d.places places && nat_le places 18 then short_constant d places else None

-- the constant of a length, which is a whole number
abbrev pub length_of : ShortDecimal → Option ℤ
length_of d =
    if d.places == 0 && nat_lt (unsigned_abs d.whole) (10 ^ 15) then Some d.whole else None

-- the constant that a place is compared with
abbrev pub constant_at : ResultPart → ShortDecimal → ℕ → Option ℤ
constant_at LengthPlace d places = length_of d
constant_at place d places = constant_of d places

abbrev pub made : Comparison → Option Operand → Option ℤ → Option DeskTest
made c None constant = None
made c (Some operand) None = None
made c (Some operand) (Some constant) =
    Some (record { operand = operand; comparison = c; constant = constant })

-- the desk's comparison for one of Argo's, with the value first
abbrev pub desk_test : Form → Test → Option DeskTest
desk_test form t =
    made (in_turn t.turned t.comparison) (desk_place form.shape t.look.place)
    (constant_at t.look.place t.amount.number form.places)

-- the comparison that keeps NaN from being below a constant
abbrev pub guard : DeskTest → DeskTest
guard t = record { operand = t.operand; comparison = NotEqual; constant = nan }

abbrev pub is_below : Comparison → Bool
is_below Less = true
is_below AtMost = true
is_below c = false

abbrev pub is_not_equal : Comparison → Bool
is_not_equal NotEqual = true
is_not_equal c = false

abbrev pub guarded_by : Bool → DeskTest → DeskAtom
guarded_by true t = Both t (guard t)
guarded_by false t = OneTest t

-- the desk's comparison, guarded if NaN would be below its constant
abbrev pub guarded : Bool → Option DeskTest → Option DeskAtom
guarded with_nan None = None
guarded with_nan (Some t) = Some (guarded_by (with_nan && is_below t.comparison) t)

abbrev pub is_value : ResultPart → Bool
is_value LengthPlace = false
is_value place = true

-- if null is reported, each value has its `default`
abbrev pub float_atom : Form → Test → Option DeskAtom
float_atom form t =
    if has_null form.beside && is_value t.look.place then None
    else guarded (has_nan form.beside) (desk_test form t)

-- and if texts are, each value has its `asFloat` or `asInt`
abbrev pub plain_atom : Form → Test → Option DeskAtom
plain_atom form t =
    if not (is_plain form.beside) && is_value t.look.place then None else float_atom form t

-- ---- `asInt`: comparisons with whole numbers of the value that is not cut off

-- the least whole number that is not below a number, and the least above it, in these units
abbrev pub least_from : ℤ → ℕ → ℤ
least_from z unit =
    if int_lt (pos 0) z then pos ((unsigned_abs z - 1) / unit + 1)
    else neg_ℤ (pos (unsigned_abs z / unit))

abbrev pub least_above : ℤ → ℕ → ℤ
least_above z unit =
    if int_lt z (pos 0) then neg_ℤ (pos ((unsigned_abs z - 1) / unit))
    else pos (unsigned_abs z / unit + 1)

-- What is cut off to a whole number k at least, above 0, is k at least; and else it is above k - 1.
abbrev pub edge_of : ℤ → ℤ
edge_of k = if int_lt (pos 0) k then k else k -ℤ pos 1

-- whether what is cut off reaches k, or stays below it
abbrev pub edge_sign : Bool → ℤ → Comparison
edge_sign true k = if int_lt (pos 0) k then AtLeast else Greater
edge_sign false k = if int_lt (pos 0) k then Less else AtMost

abbrev pub edge_test : Bool → ResultPart → ℤ → Test
edge_test reaches place k =
    record {
      look = record { place = place; function = Plain; bracketed = false };
      comparison = edge_sign reaches k;
      amount = record {
        number = record { whole = edge_of k; places = 0 };
        bracketed = false;
      };
      turned = false;
    }

abbrev pub one_test : Option DeskTest → Option DeskAtom
one_test None = None
one_test (Some t) = Some (OneTest t)

abbrev pub both_tests : Option DeskTest → Option DeskTest → Option DeskAtom
both_tests None second = None
both_tests (Some t) None = None
both_tests (Some t) (Some u) = Some (Both t u)

abbrev pub either_test : Option DeskTest → Option DeskTest → Option DeskAtom
either_test None second = None
either_test (Some t) None = None
either_test (Some t) (Some u) = Some (Either t u)

-- what is asked of the value, by the least numbers from a constant on and above it
abbrev pub int_asked : Form → ResultPart → Comparison → ℤ → ℤ → Option DeskAtom
int_asked form place Equal from above =
    both_tests (desk_test form (edge_test true place from))
    (desk_test form (edge_test false place above))
int_asked form place NotEqual from above =
    either_test (desk_test form (edge_test false place from))
    (desk_test form (edge_test true place above))
int_asked form place Less from above = one_test (desk_test form (edge_test false place from))
int_asked form place AtMost from above = one_test (desk_test form (edge_test false place above))
int_asked form place Greater from above = one_test (desk_test form (edge_test true place above))
int_asked form place AtLeast from above = one_test (desk_test form (edge_test true place from))

abbrev pub int_atom : Form → Test → Option DeskAtom
int_atom form t =
    if not (has_nan form.beside) && is_held t.amount.number
    then int_asked form t.look.place (in_turn t.turned t.comparison)
    (least_from t.amount.number.whole (10 ^ t.amount.number.places))
    (least_above t.amount.number.whole (10 ^ t.amount.number.places))
    else None

-- the operand for a place that is no length
abbrev pub desk_value : Shape → ResultPart → Option Operand
desk_value shape LengthPlace = None
desk_value shape place = desk_place shape place

-- ---- `default`: what is reported of null lies below each constant

abbrev pub at_null : Comparison → DeskTest → DeskTest
at_null c t = record { operand = t.operand; comparison = c; constant = null }

-- null as well, or not
abbrev pub except_null : Bool → DeskTest → DeskAtom
except_null true t = All t (guard t) (at_null NotEqual t)
except_null false t = Both t (at_null NotEqual t)

-- whether null is wanted, if the comparison alone takes it, or does not
abbrev pub null_by : Bool → Bool → DeskTest → DeskAtom
null_by true true t = guarded_by (is_below t.comparison) t
null_by true false t = except_null (is_below t.comparison) t
null_by false true t = Either t (at_null Equal t)
null_by false false t = guarded_by (is_below t.comparison) t

abbrev pub takes_null : Comparison → Bool
takes_null c = is_below c || is_not_equal c

abbrev pub with_null : Option ℤ → Option DeskTest → Option DeskAtom
with_null None t = None
with_null (Some z) None = None
with_null (Some z) (Some t) =
    Some (null_by (takes_null t.comparison) (compares t.comparison z t.constant) t)

-- the desk's comparison of a place that is no length
abbrev pub value_test : Form → Test → Option DeskTest
value_test form t =
    made (in_turn t.turned t.comparison) (desk_value form.shape t.look.place)
    (constant_of t.amount.number form.places)

abbrev pub default_atom : Form → ShortDecimal → Test → Option DeskAtom
default_atom form d t =
    if has_null form.beside then with_null (constant_of d form.places) (value_test form t) else None

-- what the desk asks for one of Argo's comparisons
abbrev pub function_atom : Function → Form → Test → Option DeskAtom
function_atom Plain form t = plain_atom form t
function_atom AsFloat form t = float_atom form t
function_atom AsInt form t = int_atom form t
function_atom (Default d) form t = default_atom form d t

abbrev pub compare_atom : Form → Test → Option DeskAtom
compare_atom form t = function_atom t.look.function form t

abbrev pub nan_at : Option Operand → Option DeskAtom
nan_at None = None
nan_at (Some o) = Some (OneTest (record { operand = o; comparison = Equal; constant = nan }))

-- what the desk asks for `isNaN` of a place
abbrev pub nan_atom : Form → ResultPart → Option DeskAtom
nan_atom form place =
    if has_nan form.beside && is_plain form.beside then nan_at (desk_value form.shape place)
    else None

abbrev pub inf_at : Option Operand → Option DeskAtom
inf_at None = None
inf_at (Some o) =
    Some (Either (record { operand = o; comparison = Equal; constant = infinite })
    (record { operand = o; comparison = Equal; constant = minus_infinite }))

-- what the desk asks for `isInf` of a place
abbrev pub inf_atom : Form → ResultPart → Option DeskAtom
inf_atom form place =
    if has_infinite form.beside && is_plain form.beside
    then inf_at (desk_value form.shape place) else None

-- ---- the text

abbrev pub operand_text : Operand → List ℕ
operand_text WholeOperand = codes "result"
operand_text (ItemOperand i) = codes "result[" ++ (decimal i ++ codes "]")
operand_text (NumberOperand z) = signed_decimal z

abbrev pub sign_text : Comparison → List ℕ
sign_text Equal = codes " == "
sign_text NotEqual = codes " != "
sign_text Less = codes " < "
sign_text AtMost = codes " <= "
sign_text Greater = codes " > "
sign_text AtLeast = codes " >= "

abbrev pub test_text : Option DeskTest → List ℕ
test_text None = []
test_text (Some t) = operand_text t.operand ++ (sign_text t.comparison ++ signed_decimal t.constant)

abbrev pub joined_text : DeskTest → List ℕ → DeskTest → List ℕ
joined_text t sign u =
    codes "(" ++ (test_text (Some t) ++ (sign ++ (test_text (Some u) ++ codes ")")))

abbrev pub all_text : DeskTest → DeskTest → DeskTest → List ℕ
all_text t u w =
    codes "(" ++ (test_text (Some t) ++ (codes " && " ++ (test_text (Some u)
    ++ (codes " && " ++ (test_text (Some w) ++ codes ")")))))

abbrev pub atom_words : DeskAtom → List ℕ
atom_words (OneTest t) = test_text (Some t)
atom_words (Both t u) = joined_text t (codes " && ") u
atom_words (Either t u) = joined_text t (codes " || ") u
atom_words (All t u w) = all_text t u w

abbrev pub atom_text : Option DeskAtom → List ℕ
atom_text None = []
atom_text (Some a) = atom_words a

abbrev pub sign_words : Item → List ℕ
sign_words Or = codes " || "
sign_words And = codes " && "
sign_words Not = codes "not "
sign_words Open = codes "("
sign_words Close = codes ")"
sign_words (Compare t) = []
sign_words (NaN place) = []
sign_words (Inf place) = []

abbrev pub item_text : Form → Item → List ℕ
item_text form (Compare t) = atom_text (compare_atom form t)
item_text form (NaN place) = atom_text (nan_atom form place)
item_text form (Inf place) = atom_text (inf_atom form place)
item_text form item = sign_words item

abbrev pub fits : Form → Item → Bool
fits form (Compare t) = is_some (compare_atom form t)
fits form (NaN place) = is_some (nan_atom form place)
fits form (Inf place) = is_some (inf_atom form place)
fits form item = true

abbrev pub text_of : Form → List Item → List ℕ
text_of form items = flat_map (item_text form) items

-- The signs alone, with a comparison that says nothing in place of each one: this is a desk's
-- condition exactly if the signs and brackets of Argo's fit together.
abbrev pub skeleton_text : Item → List ℕ
skeleton_text Or = codes "|| "
skeleton_text And = codes "&& "
skeleton_text Not = codes "not "
skeleton_text Open = codes "( "
skeleton_text Close = codes ") "
skeleton_text (Compare t) = codes "1<1 "
skeleton_text (NaN place) = codes "1<1 "
skeleton_text (Inf place) = codes "1<1 "

abbrev pub skeleton_of : List Item → List ℕ
skeleton_of items = flat_map skeleton_text items

-- ---- what is promised

-- THE LAW OF CONSTANTS: what a value is compared with lies between what is reported of the infinities
abbrev pub ConstantsBetween : Type 0
ConstantsBetween =
    (place : ResultPart) (d : ShortDecimal) (places : ℕ) (t : ℤ)
    → constant_at place d places ≡ Some t → IsBetween t

-- on each result that is reported, the desk's condition says what Argo's says of what was measured
abbrev pub SaysTheSame : Form → Tree → DeskTree → Type 0
SaysTheSame form argo desk =
    (m : Measured) (v : Value) → IsReported form m v → value desk v ≡ argo_value argo m

-- the groups spell a condition of Argo's, the text a desk's, and they say the same
abbrev pub IsTranslated : List Item → Form → List ℕ → Type 0
IsTranslated items form translated =
    (argo : Tree) × SpellsItems argo AtOr items × (desk : DeskTree)
    × IsConditionText translated desk × SaysTheSame form argo desk

-- THE THEOREM: the text is a condition of Argo's, the other one a desk's, and they say the same
abbrev pub IsTranslation : List ℕ → Form → List ℕ → Type 0
IsTranslation text form translated =
    (ts : List ArgoToken) × (argo : Tree) × IsMadeOf text ts × IsArgo ts argo
    × (desk : DeskTree) × IsConditionText translated desk × SaysTheSame form argo desk
