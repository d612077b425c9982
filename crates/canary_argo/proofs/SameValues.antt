-- The desk's condition says of what is reported what Argo's says of what was measured.
use Rattle.std.proofs.Common.{pos, negsuc, ◌≡◌, ℕ, ◌<◌, ℤ, Bool, true, false, not, List, [], ◌∷◌, ◌++◌, Option, Some, None, refl, sym, ap, ◌∙◌, subst, arith}
use Rattle.std.specs.Prelude.{◌&&◌, ◌||◌, ◌^◌, int_le, int_lt, if◌then◌else◌, ◌*◌, ◌*ℤ◌, ◌<ℤ◌, ◌≢◌}
use Rattle.std.specs.List.{list_all}
use Rattle.std.specs.Ordering.{int_eq}
use Rattle.std.proofs.lemmas.Bool.{false≢true, and_parts, not-true, false_from_ne_true}
use Rattle.std.proofs.lemmas.Bool.Decides.{Decides-int_eq}
use Rattle.std.proofs.lemmas.List.Folds.{list_all-append}
use Rattle.std.proofs.lemmas.Option.{none-some, same_Some}
use Rattle.canary_condition.specs.declared.condition.Comparison.{Comparison}
use Rattle.canary_condition.specs.declared.condition.Comparison.TheVariants.{Equal, NotEqual, Less, AtMost, Greater, AtLeast}
use Rattle.canary_condition.specs.declared.condition.Operand.{Operand}
use Rattle.canary_condition.specs.declared.condition.Verdict3.{Verdict3}
use Rattle.canary_condition.specs.declared.condition.Verdict3.TheVariants.{True, False, Fault}
use Rattle.canary_argo.specs.declared.translating.DeskAtom.{DeskAtom}
use Rattle.std.specs.Int.RustNames.{unsigned_abs}
use Rattle.canary_condition.specs.declared.outcome.Value.{Value}
use Rattle.canary_condition.specs.Meaning.{operand_value, compares, compared, verdict_of_test, or_of, and_of, not_of, value}
use Rattle.canary_condition.specs.Reading.{IsConditionText}
use Rattle.canary_condition.specs.Spelling.{Level, Spells as DeskSpells}
use Rattle.canary_condition.specs.Spelling.Level.{AtOr}
use Rattle.canary_condition.specs.Tokens.{tokens_of}
use Rattle.canary_condition.specs.Trees.{Tree as DeskTree}
use Rattle.canary_decimal.specs.Exactness.{Fraction, compares_exactly, ComparesAsDecimals, IsConstant, StandsFor, signed}
use Rattle.canary_decimal.specs.Short.{fraction_of, ShortConstants}
use Rattle.canary_decimal.specs.declared.decimal.ShortDecimal.{ShortDecimal}
use Rattle.canary_decimal.specs.declared.text.TextNumber.{TextNumber}
use Rattle.canary_decimal.specs.declared.text.TextNumber.TheVariants.{Whole as WholeNumber, Float as FloatNumber, Other as OtherText}
use Rattle.std.proofs.lemmas.Int.{ints}
use Rattle.canary_decimal.specs.declared.shown.Beside.{Beside}
use Rattle.canary_decimal.specs.declared.shown.Beside.TheVariants.{Nothing as NothingBeside, NaN as NaNBeside, Infinite as InfiniteBeside, Null as NullBeside, FloatText as FloatTextBeside, WholeText as WholeTextBeside}
use Rattle.canary_argo.specs.declared.condition.Item.{Item}
use Rattle.canary_argo.specs.declared.condition.Item.TheVariants.{Or as OrItem, And as AndItem, Not as NotItem, Open as OpenGroup, Close as CloseGroup}
use Rattle.canary_argo.specs.declared.condition.Function.{Function}
use Rattle.canary_argo.specs.declared.condition.Function.TheVariants.{Plain, AsFloat, AsInt, Default}
use Rattle.canary_argo.specs.declared.condition.ResultPart.{ResultPart}
use Rattle.canary_argo.specs.declared.condition.ResultPart.TheVariants.{Whole, Item as ItemPlace, Length as LengthPlace}
use Rattle.canary_argo.specs.declared.condition.Test.{Test}
use Rattle.canary_argo.specs.declared.form.Form.{Form}
use Rattle.canary_argo.specs.declared.form.Shape.{Shape}
use Rattle.canary_argo.specs.declared.translating.DeskTest.{DeskTest}
use Rattle.canary_argo.specs.Grouping.{are_closed, all_tokens, SpellsItems}
use Rattle.canary_argo.specs.Meaning.{Given, Measured, given_at, in_order, compares_nan, whole_of, applied, nan_value, inf_value, as_float, as_int, test_value, argo_value}
use Rattle.canary_argo.specs.Meaning.Given.{Decimal, NotANumber, Infinite, MinusInfinite, Nothing, Text}
use Rattle.canary_argo.specs.Meaning.Measured.{One, Several}
use Rattle.canary_argo.specs.Reporting.{nan, minus_infinite, infinite, null, has_nan, has_infinite, has_null, has_texts, is_plain, text_as, IsBetween, above_all, below_all, IsReportedAs, IsReported}
use Rattle.canary_argo.specs.Translating.{desk_place, turned, in_turn, fits, text_of, skeleton_of, SaysTheSame, IsTranslated, IsTranslation, constant_at, is_below, guarded_by, guarded, float_atom, plain_atom, desk_test, least_from, least_above, edge_test, one_test, both_tests, either_test, int_asked, int_atom, function_atom, compare_atom, is_value, except_null, null_by, takes_null, value_test, default_atom, constant_of, desk_value, nan_atom, inf_atom}
use Rattle.canary_argo.specs.Tokens.{is_held}
use Rattle.canary_argo.proofs.Cutting.{edge_reached, edge_missed, whole_asked, whole_compares}
use Rattle.canary_decimal.proofs.Alike.{pow_over_zero}
use Rattle.canary_decimal.proofs.Scaling.{compares_scaled}
use Rattle.canary_argo.specs.declared.condition.ArgoToken.{ArgoToken}
use Rattle.canary_argo.specs.Spelling.{Spells}
use Rattle.canary_argo.specs.Tokens.{IsMadeOf}
use Rattle.canary_argo.specs.Trees.{Tree}
use Rattle.canary_argo.specs.Trees.Tree.{Or, And, Not, Bracket, Compare, IsNaN, IsInf}
use Rattle.canary_argo.proofs.PrintedTests.{desk_is, length_is, constant_is}
use Rattle.canary_argo.proofs.Printed.{fit_is, nan_fit, inf_fit, guarded_is, none_by, one_is, both_are, either_are, int_is, null_is, default_is, value_is, nan_is, inf_is, compare_of, atom_shape, atom_tree, desk_tree, desk_spelled, printed}
use Rattle.canary_argo.proofs.Groups.{spelled_tokens}
use Rattle.canary_argo.proofs.Skeletons.{signs_of, unspelled}
use Rattle.canary_argo.proofs.SamePlaces.{Agrees, IsAlike, seen_as, agrees, apart_nan, compares_turned, in_order_so, place_agrees, place_alike, times_one}

-- ---- what is no decimal

-- what lies below each constant, and what lies above
low_compares : (c : Comparison) (z t : ℤ) → z <ℤ t → compares c z t ≡ compares c (pos 0) (pos 1)
low_compares Equal z t h = grind (arith, ints)
low_compares NotEqual z t h = grind (arith, ints)
low_compares Less z t h = grind (arith, ints)
low_compares AtMost z t h = grind (arith, ints)
low_compares Greater z t h = grind (arith, ints)
low_compares AtLeast z t h = grind (arith, ints)

high_compares : (c : Comparison) (z t : ℤ) → t <ℤ z → compares c z t ≡ compares c (pos 1) (pos 0)
high_compares Equal z t h = grind (arith, ints)
high_compares NotEqual z t h = grind (arith, ints)
high_compares Less z t h = grind (arith, ints)
high_compares AtMost z t h = grind (arith, ints)
high_compares Greater z t h = grind (arith, ints)
high_compares AtLeast z t h = grind (arith, ints)

-- a constant is above what is reported of NaN, null and the infinity below 0, and below the other
nan_below : (t : ℤ) → IsBetween t → nan <ℤ t
nan_below t (low, high) = omega (arith, ints)

null_before : (t : ℤ) → IsBetween t → null <ℤ t
null_before t (low, high) = omega (arith, ints)

minus_below : (w : Beside) (t : ℤ) → IsBetween t → below_all w <ℤ t
minus_below NothingBeside t (low, high) = low
minus_below NaNBeside t (low, high) = low
minus_below FloatTextBeside t (low, high) = low
minus_below WholeTextBeside t (low, high) = low
minus_below InfiniteBeside t (low, high) = omega (arith, ints)
minus_below NullBeside t (low, high) = omega (arith, ints)

plus_above : (w : Beside) (t : ℤ) → IsBetween t → t <ℤ above_all w
plus_above NothingBeside t (low, high) = high
plus_above NaNBeside t (low, high) = high
plus_above FloatTextBeside t (low, high) = high
plus_above WholeTextBeside t (low, high) = high
plus_above InfiniteBeside t (low, high) = omega (arith, ints)
plus_above NullBeside t (low, high) = omega (arith, ints)

-- no infinity is reported as NaN
plus_apart : (w : Beside) → above_all w ≢ nan
plus_apart NothingBeside e = absurd (omega (arith, ints))
plus_apart NaNBeside e = absurd (omega (arith, ints))
plus_apart FloatTextBeside e = absurd (omega (arith, ints))
plus_apart WholeTextBeside e = absurd (omega (arith, ints))
plus_apart InfiniteBeside e = absurd (omega (arith, ints))
plus_apart NullBeside e = absurd (omega (arith, ints))

minus_apart : (w : Beside) → below_all w ≢ nan
minus_apart NothingBeside e = absurd (omega (arith, ints))
minus_apart NaNBeside e = absurd (omega (arith, ints))
minus_apart FloatTextBeside e = absurd (omega (arith, ints))
minus_apart WholeTextBeside e = absurd (omega (arith, ints))
minus_apart InfiniteBeside e = absurd (omega (arith, ints))
minus_apart NullBeside e = absurd (omega (arith, ints))

within_signed : (s : Bool) (k : ℕ) → k * 10 < 2 ^ 63 → IsBetween (signed s (k * 10))
within_signed true k h = (omega (arith, ints), omega (arith, ints))
within_signed false k h = (omega (arith, ints), omega (arith, ints))

within_constant : (t : ℤ) (y : Fraction) (n : ℕ) → IsConstant t y n → IsBetween t
within_constant t y n (minus, tens, e, fits, exact) = subst IsBetween (sym e) (within_signed minus tens fits)

within_size : (z : ℤ) → unsigned_abs z < 10 ^ 15 → IsBetween z
within_size (pos n) h = (omega (arith, ints), omega (arith, ints))
within_size (negsuc n) h = (omega (arith, ints), omega (arith, ints))

pub within_at : ShortConstants → (p : ResultPart) (number : ShortDecimal) (n : ℕ) (t : ℤ) → constant_at p number n ≡ Some t → IsBetween t
within_at short Whole number n t e = within_constant t (fraction_of number) n (constant_is short number n t e)
within_at short (ItemPlace i) number n t e = within_constant t (fraction_of number) n (constant_is short number n t e)
within_at short LengthPlace number n t e = let parts = length_is number t e in subst IsBetween parts.1.0 (within_size number.whole parts.1.1)

-- the verdict of the desk's comparison, and of its guard
abbrev asked : Bool → Comparison → Option ℤ → ℤ → Verdict3
asked false c number t = compared c number (Some t)
asked true c number t = and_of (compared c number (Some t)) (compared NotEqual number (Some nan))

and_true : (b : Bool) → and_of (verdict_of_test b) True ≡ verdict_of_test b
and_true true = refl
and_true false = refl

apart_so : (z : ℤ) → z ≢ nan → compared NotEqual (Some z) (Some nan) ≡ True
apart_so z h = ap verdict_of_test (ap not (false_from_ne_true (int_eq z nan) (λ e. h ((Decides-int_eq z nan).0 e))))

-- of a number that is not that of NaN, if there is a guard
asked_apart : (b : Bool) (c : Comparison) (z t : ℤ) → (b ≡ true → z ≢ nan) → asked b c (Some z) t ≡ verdict_of_test (compares c z t)
asked_apart false c z t apart = refl
asked_apart true c z t apart = ap (and_of (verdict_of_test (compares c z t))) (apart_so z (apart refl)) ∙ and_true (compares c z t)

-- of NaN: with the guard if it would be below the constant
asked_nan : (turned_so : Bool) (c : Comparison) (t : ℤ) → nan <ℤ t → asked (is_below (in_turn turned_so c)) (in_turn turned_so c) (Some nan) t ≡ verdict_of_test (compares_nan c)
asked_nan false Equal t h = ap verdict_of_test (low_compares Equal nan t h)
asked_nan false NotEqual t h = ap verdict_of_test (low_compares NotEqual nan t h)
asked_nan false Less t h = ap (λ (b : Bool). and_of (verdict_of_test b) False) (low_compares Less nan t h)
asked_nan false AtMost t h = ap (λ (b : Bool). and_of (verdict_of_test b) False) (low_compares AtMost nan t h)
asked_nan false Greater t h = ap verdict_of_test (low_compares Greater nan t h)
asked_nan false AtLeast t h = ap verdict_of_test (low_compares AtLeast nan t h)
asked_nan true Equal t h = ap verdict_of_test (low_compares Equal nan t h)
asked_nan true NotEqual t h = ap verdict_of_test (low_compares NotEqual nan t h)
asked_nan true Less t h = ap verdict_of_test (low_compares Greater nan t h)
asked_nan true AtMost t h = ap verdict_of_test (low_compares AtLeast nan t h)
asked_nan true Greater t h = ap (λ (b : Bool). and_of (verdict_of_test b) False) (low_compares Less nan t h)
asked_nan true AtLeast t h = ap (λ (b : Bool). and_of (verdict_of_test b) False) (low_compares AtMost nan t h)

second_of : (a b : Bool) → (a && b) ≡ true → a ≡ true
second_of a b e = (and_parts a b e).0

asked_none : (b : Bool) (c : Comparison) (t : ℤ) → asked b c None t ≡ Fault
asked_none true c t = refl
asked_none false c t = refl

-- not null
abbrev IsGiven : Option Given → Type 0
IsGiven (Some Nothing) = ⊥
IsGiven given = Unit {0}

ordered_ints : (b : Bool) (c : Comparison) (x y : ℤ) → compares (in_turn b c) x y ≡ in_order b (compares c) x y
ordered_ints true c x y = compares_turned c x y
ordered_ints false c x y = refl

asked_so : (w : Beside) (test : Test) (t : ℤ) (number : Option ℤ) (given : Option Given) → IsBetween t → IsGiven given → Agrees w t (fraction_of test.amount.number) number given → asked (has_nan w && is_below (in_turn test.turned test.comparison)) (in_turn test.turned test.comparison) number t ≡ test_value test given
asked_so w test t None None within some h = asked_none (has_nan w && is_below (in_turn test.turned test.comparison)) (in_turn test.turned test.comparison) t
asked_so w test t None (Some g) within some h = absurd h
asked_so w test t (Some z) None within some h = absurd h
asked_so w test t (Some z) (Some (Decimal x)) within some h =
    let c = in_turn test.turned test.comparison in
    asked_apart (has_nan w && is_below c) c z t (λ e. h.1 (second_of (has_nan w) (is_below c) e)) ∙ ap verdict_of_test (in_order_so test.turned test.comparison z t x (fraction_of test.amount.number) h.0)
asked_so w test t (Some z) (Some NotANumber) within some h =
    let c = in_turn test.turned test.comparison in
    ap (λ (b : Bool). asked (b && is_below c) c (Some z) t) h.0 ∙ ap (λ (k : ℤ). asked (is_below c) c (Some k) t) h.1 ∙ asked_nan test.turned test.comparison t (nan_below t within)
asked_so w test t (Some z) (Some Infinite) within some h =
    let c = in_turn test.turned test.comparison in
    ap (λ (k : ℤ). asked (has_nan w && is_below c) c (Some k) t) h ∙ asked_apart (has_nan w && is_below c) c (above_all w) t (λ _. plus_apart w)
    ∙ ap verdict_of_test (high_compares c (above_all w) t (plus_above w t within) ∙ ordered_ints test.turned test.comparison (pos 1) (pos 0))
asked_so w test t (Some z) (Some MinusInfinite) within some h =
    let c = in_turn test.turned test.comparison in
    ap (λ (k : ℤ). asked (has_nan w && is_below c) c (Some k) t) h ∙ asked_apart (has_nan w && is_below c) c (below_all w) t (λ _. minus_apart w)
    ∙ ap verdict_of_test (low_compares c (below_all w) t (minus_below w t within) ∙ ordered_ints test.turned test.comparison (pos 0) (pos 1))
asked_so w test t (Some z) (Some Nothing) within some h = absurd some
asked_so w test t (Some z) (Some (Text number)) within some h = absurd h

given_by : (w : Beside) (t : ℤ) (y : Fraction) (number : Option ℤ) (given : Option Given) → has_null w ≡ false → Agrees w t y number given → IsGiven given
given_by w t y None None none h = tt
given_by w t y None (Some g) none h = absurd h
given_by w t y (Some z) None none h = absurd h
given_by w t y (Some z) (Some (Decimal x)) none h = tt
given_by w t y (Some z) (Some NotANumber) none h = tt
given_by w t y (Some z) (Some Infinite) none h = tt
given_by w t y (Some z) (Some MinusInfinite) none h = tt
given_by w t y (Some z) (Some (Text number)) none h = tt
given_by w t y (Some z) (Some Nothing) none h = absurd (false≢true (sym none ∙ h.0))

and_true_so : (b : Bool) → (b && true) ≡ false → b ≡ false
and_true_so true e = e
and_true_so false e = e

-- a length is given
given_there : (w : Beside) (t : ℤ) (y : Fraction) (number : Option ℤ) (p : ResultPart) (m : Measured) → (has_null w && is_value p) ≡ false → Agrees w t y number (seen_as w (given_at p m)) → IsGiven (seen_as w (given_at p m))
given_there w t y number LengthPlace (One g) none h = tt
given_there w t y number LengthPlace (Several gs) none h = tt
given_there w t y number Whole m none h = given_by w t y number (seen_as w (given_at Whole m)) (and_true_so (has_null w) none) h
given_there w t y number (ItemPlace i) m none h = given_by w t y number (seen_as w (given_at (ItemPlace i) m)) (and_true_so (has_null w) none) h

shape_value : (b : Bool) (d : DeskTest) (v : Value) → value (atom_shape (guarded_by b d)) v ≡ asked b d.comparison (operand_value d.operand v) d.constant
shape_value true d v = refl
shape_value false d v = refl

desk_so : ComparesAsDecimals → ShortConstants → (form : Form) (test : Test) (d : DeskTest) (m : Measured) (v : Value) → (has_null form.beside && is_value test.look.place) ≡ false → desk_test form test ≡ Some d → IsReported form m v → asked (has_nan form.beside && is_below d.comparison) d.comparison (operand_value d.operand v) d.constant ≡ test_value test (seen_as form.beside (given_at test.look.place m))
desk_so law short form test d m v none e h =
    let parts = desk_is form test d e in
    let number = operand_value d.operand v in
    let so = place_agrees law short form.beside form.places form.shape test.look.place test.amount.number d.operand d.constant m v parts.0 parts.1.1 h in
    ap (λ (c : Comparison). asked (has_nan form.beside && is_below c) c number d.constant) (sym parts.1.0)
    ∙ asked_so form.beside test d.constant number (seen_as form.beside (given_at test.look.place m)) (within_at short test.look.place test.amount.number form.places d.constant parts.1.1) (given_there form.beside d.constant (fraction_of test.amount.number) number test.look.place m none so) so

value_alike : (w : Beside) (n : ℕ) (shape : Shape) (p : ResultPart) (o : Operand) (m : Measured) (v : Value) → desk_value shape p ≡ Some o → IsReportedAs w n shape m v → IsAlike w n (operand_value o v) (seen_as w (given_at p m))
value_alike w n shape LengthPlace o m v e h = absurd (none-some o e)
value_alike w n shape Whole o m v e h = place_alike w n shape Whole o m v tt e h
value_alike w n shape (ItemPlace i) o m v e h = place_alike w n shape (ItemPlace i) o m v tt e h

-- ---- texts

-- where a text is reported, it is as what `asFloat` makes of it
float_text : (w : Beside) (n : ℕ) (number : TextNumber) (z : ℤ) → IsAlike w n (Some z) (Some (text_as w number)) → Some (text_as w number) ≡ as_float number
float_text NothingBeside n number z h = absurd h
float_text NaNBeside n number z h = absurd h
float_text InfiniteBeside n number z h = absurd h
float_text NullBeside n number z h = absurd h
float_text FloatTextBeside n (WholeNumber x) z h = refl
float_text FloatTextBeside n (FloatNumber reading) z h = refl
float_text FloatTextBeside n OtherText z h = absurd h
float_text WholeTextBeside n (WholeNumber x) z h = refl
float_text WholeTextBeside n (FloatNumber reading) z h = absurd h
float_text WholeTextBeside n OtherText z h = absurd h

float_seen : (w : Beside) (n : ℕ) (number : Option ℤ) (given : Option Given) → IsAlike w n number (seen_as w given) → seen_as w given ≡ applied AsFloat given
float_seen w n None None h = refl
float_seen w n None (Some g) h = absurd h
float_seen w n (Some z) None h = refl
float_seen w n (Some z) (Some (Decimal x)) h = refl
float_seen w n (Some z) (Some NotANumber) h = refl
float_seen w n (Some z) (Some Infinite) h = refl
float_seen w n (Some z) (Some MinusInfinite) h = refl
float_seen w n (Some z) (Some Nothing) h = refl
float_seen w n (Some z) (Some (Text number)) h = float_text w n number z h

float_given : (w : Beside) (n : ℕ) (shape : Shape) (p : ResultPart) (o : Operand) (m : Measured) (v : Value) → desk_place shape p ≡ Some o → IsReportedAs w n shape m v → seen_as w (given_at p m) ≡ applied AsFloat (given_at p m)
float_given w n shape LengthPlace o (One g) v e h = refl
float_given w n shape LengthPlace o (Several gs) v e h = refl
float_given w n shape Whole o m v e h = float_seen w n (operand_value o v) (given_at Whole m) (place_alike w n shape Whole o m v tt e h)
float_given w n shape (ItemPlace i) o m v e h = float_seen w n (operand_value o v) (given_at (ItemPlace i) m) (place_alike w n shape (ItemPlace i) o m v tt e h)

-- the same of `asInt`, if NaN is not reported
int_text : (w : Beside) (n : ℕ) (number : TextNumber) (z : ℤ) → has_nan w ≡ false → IsAlike w n (Some z) (Some (text_as w number)) → applied AsInt (Some (text_as w number)) ≡ as_int number
int_text NothingBeside n number z none h = absurd h
int_text NaNBeside n number z none h = absurd h
int_text InfiniteBeside n number z none h = absurd h
int_text NullBeside n number z none h = absurd h
int_text FloatTextBeside n number z none h = absurd (false≢true (sym none))
int_text WholeTextBeside n (WholeNumber x) z none h = refl
int_text WholeTextBeside n (FloatNumber reading) z none h = absurd h
int_text WholeTextBeside n OtherText z none h = absurd h

int_seen : (w : Beside) (n : ℕ) (number : Option ℤ) (given : Option Given) → has_nan w ≡ false → IsAlike w n number (seen_as w given) → applied AsInt (seen_as w given) ≡ applied AsInt given
int_seen w n None None none h = refl
int_seen w n None (Some g) none h = absurd h
int_seen w n (Some z) None none h = refl
int_seen w n (Some z) (Some (Decimal x)) none h = refl
int_seen w n (Some z) (Some NotANumber) none h = refl
int_seen w n (Some z) (Some Infinite) none h = refl
int_seen w n (Some z) (Some MinusInfinite) none h = refl
int_seen w n (Some z) (Some Nothing) none h = refl
int_seen w n (Some z) (Some (Text number)) none h = int_text w n number z none h

int_place : (w : Beside) (n : ℕ) (shape : Shape) (p : ResultPart) (o : Operand) (m : Measured) (v : Value) → has_nan w ≡ false → desk_place shape p ≡ Some o → IsReportedAs w n shape m v → applied AsInt (seen_as w (given_at p m)) ≡ applied AsInt (given_at p m)
int_place w n shape LengthPlace o (One g) v none e h = refl
int_place w n shape LengthPlace o (Several gs) v none e h = refl
int_place w n shape Whole o m v none e h = int_seen w n (operand_value o v) (given_at Whole m) none (place_alike w n shape Whole o m v tt e h)
int_place w n shape (ItemPlace i) o m v none e h = int_seen w n (operand_value o v) (given_at (ItemPlace i) m) none (place_alike w n shape (ItemPlace i) o m v tt e h)

-- where texts are not reported, a value is as it is
text_plain : (w : Beside) (number : TextNumber) → has_texts w ≡ false → text_as w number ≡ Text number
text_plain NothingBeside number e = refl
text_plain NaNBeside number e = refl
text_plain InfiniteBeside number e = refl
text_plain NullBeside number e = refl
text_plain FloatTextBeside number e = absurd (false≢true (sym e))
text_plain WholeTextBeside number e = absurd (false≢true (sym e))

seen_plain : (w : Beside) (given : Option Given) → has_texts w ≡ false → seen_as w given ≡ given
seen_plain w None e = refl
seen_plain w (Some (Decimal x)) e = refl
seen_plain w (Some NotANumber) e = refl
seen_plain w (Some Infinite) e = refl
seen_plain w (Some MinusInfinite) e = refl
seen_plain w (Some Nothing) e = refl
seen_plain w (Some (Text number)) e = ap (λ (g : Given). Some g) (text_plain w number e)

plain_given : (w : Beside) (p : ResultPart) (m : Measured) → (has_texts w && is_value p) ≡ false → seen_as w (given_at p m) ≡ given_at p m
plain_given w LengthPlace (One g) e = refl
plain_given w LengthPlace (Several gs) e = refl
plain_given w Whole m e = seen_plain w (given_at Whole m) (and_true_so (has_texts w) e)
plain_given w (ItemPlace i) m e = seen_plain w (given_at (ItemPlace i) m) (and_true_so (has_texts w) e)

texts_none : (w : Beside) (b : Bool) → (not (is_plain w) && b) ≡ false → (has_texts w && b) ≡ false
texts_none NothingBeside b e = refl
texts_none NaNBeside b e = refl
texts_none InfiniteBeside b e = refl
texts_none NullBeside b e = refl
texts_none FloatTextBeside b e = e
texts_none WholeTextBeside b e = e

-- of a form that is plain
plain_parts : (w : Beside) → is_plain w ≡ true → (has_null w ≡ false) × (has_texts w ≡ false)
plain_parts NothingBeside e = (refl, refl)
plain_parts NaNBeside e = (refl, refl)
plain_parts InfiniteBeside e = (refl, refl)
plain_parts NullBeside e = absurd (false≢true e)
plain_parts FloatTextBeside e = absurd (false≢true e)
plain_parts WholeTextBeside e = absurd (false≢true e)

float_so : ComparesAsDecimals → ShortConstants → (form : Form) (test : Test) (a : DeskAtom) (m : Measured) (v : Value) → float_atom form test ≡ Some a → IsReported form m v → (value (atom_shape a) v ≡ test_value test (seen_as form.beside (given_at test.look.place m))) × (seen_as form.beside (given_at test.look.place m) ≡ applied AsFloat (given_at test.look.place m))
float_so law short form test a m v e h =
    let (none, made) = none_by (has_null form.beside && is_value test.look.place) (guarded (has_nan form.beside) (desk_test form test)) a e in
    let (d, (found, is)) = guarded_is (has_nan form.beside) (desk_test form test) a made in
    let parts = desk_is form test d found in (
      ap (λ (x : DeskAtom). value (atom_shape x) v) (sym is)
          ∙ shape_value (has_nan form.beside && is_below d.comparison) d v
          ∙ desk_so law short form test d m v none found h,
      float_given form.beside form.places form.shape test.look.place d.operand m v parts.0 h,
    )

plain_so : ComparesAsDecimals → ShortConstants → (form : Form) (test : Test) (a : DeskAtom) (m : Measured) (v : Value) → plain_atom form test ≡ Some a → IsReported form m v → value (atom_shape a) v ≡ test_value test (given_at test.look.place m)
plain_so law short form test a m v e h =
    let (none, made) = none_by (not (is_plain form.beside) && is_value test.look.place) (float_atom form test) a e in
    (float_so law short form test a m v made h).0
    ∙ ap (test_value test) (plain_given form.beside test.look.place m (texts_none form.beside (is_value test.look.place) none))

-- ---- `asInt`

no_null : (w : Beside) → has_nan w ≡ false → has_null w ≡ false
no_null NothingBeside e = refl
no_null NaNBeside e = refl
no_null InfiniteBeside e = refl
no_null NullBeside e = e
no_null FloatTextBeside e = refl
no_null WholeTextBeside e = refl

-- the value of a comparison with a whole number, if NaN is not reported
edge_so : ComparesAsDecimals → ShortConstants → (form : Form) (test : Test) (d : DeskTest) (m : Measured) (v : Value) → has_nan form.beside ≡ false → desk_test form test ≡ Some d → IsReported form m v → value (compare_of (Some d)) v ≡ test_value test (seen_as form.beside (given_at test.look.place m))
edge_so law short form test d m v none e h =
    ap (λ (b : Bool). asked (b && is_below d.comparison) d.comparison (operand_value d.operand v) d.constant) (sym none)
    ∙ desk_so law short form test d m v (ap (λ (b : Bool). b && is_value test.look.place) (no_null form.beside none)) e h

-- no value but a decimal or an infinity
abbrev IsDecimal : Option Given → Type 0
IsDecimal None = Unit {0}
IsDecimal (Some (Decimal x)) = Unit {0}
IsDecimal (Some Infinite) = Unit {0}
IsDecimal (Some MinusInfinite) = Unit {0}
IsDecimal given = ⊥

decimal_by : (w : Beside) (t : ℤ) (y : Fraction) (number : Option ℤ) (given : Option Given) → has_nan w ≡ false → Agrees w t y number given → IsDecimal given
decimal_by w t y None None none h = tt
decimal_by w t y None (Some g) none h = absurd h
decimal_by w t y (Some z) None none h = absurd h
decimal_by w t y (Some z) (Some (Decimal x)) none h = tt
decimal_by w t y (Some z) (Some NotANumber) none h = absurd (false≢true (sym none ∙ h.0))
decimal_by w t y (Some z) (Some Infinite) none h = tt
decimal_by w t y (Some z) (Some MinusInfinite) none h = tt
decimal_by w t y (Some z) (Some (Text number)) none h = absurd h
decimal_by w t y (Some z) (Some Nothing) none h = absurd (false≢true (sym (no_null w none) ∙ h.0))

decimal_at : ComparesAsDecimals → ShortConstants → (form : Form) (test : Test) (d : DeskTest) (m : Measured) (v : Value) → has_nan form.beside ≡ false → desk_test form test ≡ Some d → IsReported form m v → IsDecimal (seen_as form.beside (given_at test.look.place m))
decimal_at law short form test d m v none e h =
    let parts = desk_is form test d e in
    decimal_by form.beside d.constant (fraction_of test.amount.number) (operand_value d.operand v) (seen_as form.beside (given_at test.look.place m)) none (place_agrees law short form.beside form.places form.shape test.look.place test.amount.number d.operand d.constant m v parts.0 parts.1.1 h)

-- what is asked of the value, in Argo's terms
abbrev int_verdict : Comparison → ResultPart → ℤ → ℤ → Option Given → Verdict3
int_verdict Equal p from above g = and_of (test_value (edge_test true p from) g) (test_value (edge_test false p above) g)
int_verdict NotEqual p from above g = or_of (test_value (edge_test false p from) g) (test_value (edge_test true p above) g)
int_verdict Less p from above g = test_value (edge_test false p from) g
int_verdict AtMost p from above g = test_value (edge_test false p above) g
int_verdict Greater p from above g = test_value (edge_test true p above) g
int_verdict AtLeast p from above g = test_value (edge_test true p from) g

and_verdicts : (a b : Bool) → and_of (verdict_of_test a) (verdict_of_test b) ≡ verdict_of_test (a && b)
and_verdicts true b = refl
and_verdicts false b = refl

or_verdicts : (a b : Bool) → or_of (verdict_of_test a) (verdict_of_test b) ≡ verdict_of_test (a || b)
or_verdicts true b = refl
or_verdicts false b = refl

abbrev cut : Fraction → ℤ
cut x = whole_of x.whole (10 ^ x.places)

reached_so : (p : ResultPart) (k : ℤ) (x : Fraction) → test_value (edge_test true p k) (Some (Decimal x)) ≡ verdict_of_test (int_le k (cut x))
reached_so p k x = ap verdict_of_test (edge_reached k x.whole (10 ^ x.places) (pow_over_zero x.places))

missed_so : (p : ResultPart) (k : ℤ) (x : Fraction) → test_value (edge_test false p k) (Some (Decimal x)) ≡ verdict_of_test (not (int_le k (cut x)))
missed_so p k x = ap verdict_of_test (edge_missed k x.whole (10 ^ x.places) (pow_over_zero x.places))

int_says : (c : Comparison) (p : ResultPart) (from above : ℤ) (x : Fraction) → int_verdict c p from above (Some (Decimal x)) ≡ verdict_of_test (whole_asked c from above (cut x))
int_says Equal p from above x =
    ap (λ (r : Verdict3). and_of r (test_value (edge_test false p above) (Some (Decimal x)))) (reached_so p from x)
    ∙ ap (and_of (verdict_of_test (int_le from (cut x)))) (missed_so p above x) ∙ and_verdicts (int_le from (cut x)) (not (int_le above (cut x)))
int_says NotEqual p from above x =
    ap (λ (r : Verdict3). or_of r (test_value (edge_test true p above) (Some (Decimal x)))) (missed_so p from x)
    ∙ ap (or_of (verdict_of_test (not (int_le from (cut x))))) (reached_so p above x) ∙ or_verdicts (not (int_le from (cut x))) (int_le above (cut x))
int_says Less p from above x = missed_so p from x
int_says AtMost p from above x = missed_so p above x
int_says Greater p from above x = reached_so p above x
int_says AtLeast p from above x = reached_so p from x

-- an infinity reaches each whole number, or stays below it
reached_always : (b : Bool) → compares (if b then AtLeast else Greater) (pos 1) (pos 0) ≡ true
reached_always true = refl
reached_always false = refl

missed_never : (b : Bool) → compares (if b then Less else AtMost) (pos 1) (pos 0) ≡ false
missed_never true = refl
missed_never false = refl

reached_never : (b : Bool) → compares (if b then AtLeast else Greater) (pos 0) (pos 1) ≡ false
reached_never true = refl
reached_never false = refl

missed_always : (b : Bool) → compares (if b then Less else AtMost) (pos 0) (pos 1) ≡ true
missed_always true = refl
missed_always false = refl

plus_reached : (p : ResultPart) (k : ℤ) → test_value (edge_test true p k) (Some Infinite) ≡ True
plus_reached p k = ap verdict_of_test (reached_always (int_lt (pos 0) k))

plus_missed : (p : ResultPart) (k : ℤ) → test_value (edge_test false p k) (Some Infinite) ≡ False
plus_missed p k = ap verdict_of_test (missed_never (int_lt (pos 0) k))

minus_reached : (p : ResultPart) (k : ℤ) → test_value (edge_test true p k) (Some MinusInfinite) ≡ False
minus_reached p k = ap verdict_of_test (reached_never (int_lt (pos 0) k))

minus_missed : (p : ResultPart) (k : ℤ) → test_value (edge_test false p k) (Some MinusInfinite) ≡ True
minus_missed p k = ap verdict_of_test (missed_always (int_lt (pos 0) k))

int_plus : (c : Comparison) (p : ResultPart) (from above : ℤ) → int_verdict c p from above (Some Infinite) ≡ verdict_of_test (compares c (pos 1) (pos 0))
int_plus Equal p from above =
    ap (λ (r : Verdict3). and_of r (test_value (edge_test false p above) (Some Infinite))) (plus_reached p from) ∙ plus_missed p above
int_plus NotEqual p from above =
    ap (λ (r : Verdict3). or_of r (test_value (edge_test true p above) (Some Infinite))) (plus_missed p from) ∙ plus_reached p above
int_plus Less p from above = plus_missed p from
int_plus AtMost p from above = plus_missed p above
int_plus Greater p from above = plus_reached p above
int_plus AtLeast p from above = plus_reached p from

int_minus : (c : Comparison) (p : ResultPart) (from above : ℤ) → int_verdict c p from above (Some MinusInfinite) ≡ verdict_of_test (compares c (pos 0) (pos 1))
int_minus Equal p from above =
    ap (λ (r : Verdict3). and_of r (test_value (edge_test false p above) (Some MinusInfinite))) (minus_reached p from)
int_minus NotEqual p from above =
    ap (λ (r : Verdict3). or_of r (test_value (edge_test true p above) (Some MinusInfinite))) (minus_missed p from)
int_minus Less p from above = minus_missed p from
int_minus AtMost p from above = minus_missed p above
int_minus Greater p from above = minus_reached p above
int_minus AtLeast p from above = minus_reached p from

int_fault : (c : Comparison) (p : ResultPart) (from above : ℤ) → int_verdict c p from above None ≡ Fault
int_fault Equal p from above = refl
int_fault NotEqual p from above = refl
int_fault Less p from above = refl
int_fault AtMost p from above = refl
int_fault Greater p from above = refl
int_fault AtLeast p from above = refl

ordered : (b : Bool) (c : Comparison) (y : ℤ) (number : ShortDecimal) → in_order b (compares_exactly c) (record { whole = y; places = 0 }) (fraction_of number) ≡ compares (in_turn b c) (y *ℤ pos (10 ^ number.places)) number.whole
ordered false c y number = ap (compares c (y *ℤ pos (10 ^ number.places))) (times_one number.whole)
ordered true c y number =
    sym (compares_turned c (y *ℤ pos (10 ^ number.places)) (number.whole *ℤ pos (10 ^ 0)))
    ∙ ap (compares (turned c) (y *ℤ pos (10 ^ number.places))) (times_one number.whole)

abbrev from_of : Test → ℤ
from_of t = least_from t.amount.number.whole (10 ^ t.amount.number.places)

abbrev above_of : Test → ℤ
above_of t = least_above t.amount.number.whole (10 ^ t.amount.number.places)

int_given : (test : Test) (given : Option Given) → IsDecimal given → int_verdict (in_turn test.turned test.comparison) test.look.place (from_of test) (above_of test) given ≡ test_value test (applied AsInt given)
int_given test None h = int_fault (in_turn test.turned test.comparison) test.look.place (from_of test) (above_of test)
int_given test (Some (Decimal x)) h =
    let c = in_turn test.turned test.comparison in
    let number = test.amount.number in
    int_says c test.look.place (from_of test) (above_of test) x
    ∙ ap verdict_of_test (sym (whole_compares c number.whole (cut x) (10 ^ number.places) (pow_over_zero number.places)) ∙ sym (ordered test.turned test.comparison (cut x) number))
int_given test (Some NotANumber) h = absurd h
int_given test (Some Infinite) h =
    let c = in_turn test.turned test.comparison in
    int_plus c test.look.place (from_of test) (above_of test) ∙ ap verdict_of_test (ordered_ints test.turned test.comparison (pos 1) (pos 0))
int_given test (Some MinusInfinite) h =
    let c = in_turn test.turned test.comparison in
    int_minus c test.look.place (from_of test) (above_of test) ∙ ap verdict_of_test (ordered_ints test.turned test.comparison (pos 0) (pos 1))
int_given test (Some Nothing) h = absurd h
int_given test (Some (Text number)) h = absurd h

-- the shape has the place
abbrev HasPlace : Form → ResultPart → Type 0
HasPlace form p = (o : Operand) × (desk_place form.shape p ≡ Some o)

-- the desk's value of what is asked, and no value but a decimal
abbrev IntSo : Form → ResultPart → Comparison → ℤ → ℤ → DeskAtom → Measured → Value → Type 0
IntSo form p c from above a m v =
    (value (atom_shape a) v ≡ int_verdict c p from above (seen_as form.beside (given_at p m))) × IsDecimal (seen_as form.beside (given_at p m)) × HasPlace form p

one_so : ComparesAsDecimals → ShortConstants → (form : Form) (x : Test) (a : DeskAtom) (m : Measured) (v : Value) → has_nan form.beside ≡ false → one_test (desk_test form x) ≡ Some a → IsReported form m v → (value (atom_shape a) v ≡ test_value x (seen_as form.beside (given_at x.look.place m))) × IsDecimal (seen_as form.beside (given_at x.look.place m)) × HasPlace form x.look.place
one_so law short form x a m v none e h =
    let (t, (found, is)) = one_is (desk_test form x) a e in
    (ap (λ (k : DeskAtom). value (atom_shape k) v) (sym is) ∙ edge_so law short form x t m v none found h, decimal_at law short form x t m v none found h, (t.operand, (desk_is form x t found).0))

both_so : ComparesAsDecimals → ShortConstants → (form : Form) (x y : Test) (a : DeskAtom) (m : Measured) (v : Value) → has_nan form.beside ≡ false → both_tests (desk_test form x) (desk_test form y) ≡ Some a → IsReported form m v → (value (atom_shape a) v ≡ and_of (test_value x (seen_as form.beside (given_at x.look.place m))) (test_value y (seen_as form.beside (given_at y.look.place m)))) × IsDecimal (seen_as form.beside (given_at x.look.place m)) × HasPlace form x.look.place
both_so law short form x y a m v none e h =
    let (t, (u, (found, (more, is)))) = both_are (desk_test form x) (desk_test form y) a e in
    let first = edge_so law short form x t m v none found h in
    let second = edge_so law short form y u m v none more h in
    (ap (λ (k : DeskAtom). value (atom_shape k) v) (sym is) ∙ ap (λ (r : Verdict3). and_of r (value (compare_of (Some u)) v)) first ∙ ap (and_of (test_value x (seen_as form.beside (given_at x.look.place m)))) second, decimal_at law short form x t m v none found h, (t.operand, (desk_is form x t found).0))

either_so : ComparesAsDecimals → ShortConstants → (form : Form) (x y : Test) (a : DeskAtom) (m : Measured) (v : Value) → has_nan form.beside ≡ false → either_test (desk_test form x) (desk_test form y) ≡ Some a → IsReported form m v → (value (atom_shape a) v ≡ or_of (test_value x (seen_as form.beside (given_at x.look.place m))) (test_value y (seen_as form.beside (given_at y.look.place m)))) × IsDecimal (seen_as form.beside (given_at x.look.place m)) × HasPlace form x.look.place
either_so law short form x y a m v none e h =
    let (t, (u, (found, (more, is)))) = either_are (desk_test form x) (desk_test form y) a e in
    let first = edge_so law short form x t m v none found h in
    let second = edge_so law short form y u m v none more h in
    (ap (λ (k : DeskAtom). value (atom_shape k) v) (sym is) ∙ ap (λ (r : Verdict3). or_of r (value (compare_of (Some u)) v)) first ∙ ap (or_of (test_value x (seen_as form.beside (given_at x.look.place m)))) second, decimal_at law short form x t m v none found h, (t.operand, (desk_is form x t found).0))

int_asked_so : ComparesAsDecimals → ShortConstants → (form : Form) (p : ResultPart) (c : Comparison) (from above : ℤ) (a : DeskAtom) (m : Measured) (v : Value) → has_nan form.beside ≡ false → int_asked form p c from above ≡ Some a → IsReported form m v → IntSo form p c from above a m v
int_asked_so law short form p Equal from above a m v none e h = both_so law short form (edge_test true p from) (edge_test false p above) a m v none e h
int_asked_so law short form p NotEqual from above a m v none e h = either_so law short form (edge_test false p from) (edge_test true p above) a m v none e h
int_asked_so law short form p Less from above a m v none e h = one_so law short form (edge_test false p from) a m v none e h
int_asked_so law short form p AtMost from above a m v none e h = one_so law short form (edge_test false p above) a m v none e h
int_asked_so law short form p Greater from above a m v none e h = one_so law short form (edge_test true p above) a m v none e h
int_asked_so law short form p AtLeast from above a m v none e h = one_so law short form (edge_test true p from) a m v none e h

int_so : ComparesAsDecimals → ShortConstants → (form : Form) (test : Test) (a : DeskAtom) (m : Measured) (v : Value) → int_atom form test ≡ Some a → IsReported form m v → value (atom_shape a) v ≡ test_value test (applied AsInt (given_at test.look.place m))
int_so law short form test a m v e h =
    let found = int_is form test a e in
    let none = not-true (has_nan form.beside) (and_parts (not (has_nan form.beside)) (is_held test.amount.number) found.0).0 in
    let so = int_asked_so law short form test.look.place (in_turn test.turned test.comparison) (from_of test) (above_of test) a m v none found.1 h in
    so.0 ∙ int_given test (seen_as form.beside (given_at test.look.place m)) so.1
    ∙ ap (test_value test) (int_place form.beside form.places form.shape test.look.place so.2.0 m v none so.2.1 h)

-- ---- `default`

-- the verdict of the desk's comparison, with null taken or left out
abbrev null_asked : Bool → Bool → Comparison → Option ℤ → ℤ → Verdict3
null_asked true true c number t = asked (is_below c) c number t
null_asked true false c number t = and_of (asked (is_below c) c number t) (compared NotEqual number (Some null))
null_asked false true c number t = or_of (compared c number (Some t)) (compared Equal number (Some null))
null_asked false false c number t = asked (is_below c) c number t

except_value : (b : Bool) (d : DeskTest) (v : Value) → value (atom_shape (except_null b d)) v ≡ and_of (asked b d.comparison (operand_value d.operand v) d.constant) (compared NotEqual (operand_value d.operand v) (Some null))
except_value true d v = refl
except_value false d v = refl

null_shape : (takes wanted : Bool) (d : DeskTest) (v : Value) → value (atom_shape (null_by takes wanted d)) v ≡ null_asked takes wanted d.comparison (operand_value d.operand v) d.constant
null_shape true true d v = shape_value (is_below d.comparison) d v
null_shape true false d v = except_value (is_below d.comparison) d v
null_shape false true d v = refl
null_shape false false d v = shape_value (is_below d.comparison) d v

null_fault : (a b : Bool) (c : Comparison) (t : ℤ) → null_asked a b c None t ≡ Fault
null_fault true true c t = asked_none (is_below c) c t
null_fault true false c t = ap (λ (r : Verdict3). and_of r Fault) (asked_none (is_below c) c t)
null_fault false true c t = refl
null_fault false false c t = asked_none (is_below c) c t

and_true_any : (r : Verdict3) → and_of r True ≡ r
and_true_any True = refl
and_true_any False = refl
and_true_any Fault = refl

or_false_any : (r : Verdict3) → or_of r False ≡ r
or_false_any True = refl
or_false_any False = refl
or_false_any Fault = refl

not_null : (z : ℤ) → z ≢ null → compared NotEqual (Some z) (Some null) ≡ True
not_null z h = ap verdict_of_test (ap not (false_from_ne_true (int_eq z null) (λ e. h ((Decides-int_eq z null).0 e))))

no_null_there : (z : ℤ) → z ≢ null → compared Equal (Some z) (Some null) ≡ False
no_null_there z h = ap verdict_of_test (false_from_ne_true (int_eq z null) (λ e. h ((Decides-int_eq z null).0 e)))

-- of what is not null: as without it
left_out : (b : Bool) (c : Comparison) (z t : ℤ) → z ≢ null → and_of (asked b c (Some z) t) (compared NotEqual (Some z) (Some null)) ≡ asked b c (Some z) t
left_out b c z t h = ap (and_of (asked b c (Some z) t)) (not_null z h) ∙ and_true_any (asked b c (Some z) t)

taken_in : (c : Comparison) (z t : ℤ) → z ≢ null → or_of (compared c (Some z) (Some t)) (compared Equal (Some z) (Some null)) ≡ compared c (Some z) (Some t)
taken_in c z t h = ap (or_of (compared c (Some z) (Some t))) (no_null_there z h) ∙ or_false_any (compared c (Some z) (Some t))

null_apart : (c : Comparison) (b : Bool) (z t : ℤ) → z ≢ null → null_asked (takes_null c) b c (Some z) t ≡ asked (is_below c) c (Some z) t
null_apart Equal true z t h = taken_in Equal z t h
null_apart Equal false z t h = refl
null_apart NotEqual true z t h = refl
null_apart NotEqual false z t h = left_out false NotEqual z t h
null_apart Less true z t h = refl
null_apart Less false z t h = left_out true Less z t h
null_apart AtMost true z t h = refl
null_apart AtMost false z t h = left_out true AtMost z t h
null_apart Greater true z t h = taken_in Greater z t h
null_apart Greater false z t h = refl
null_apart AtLeast true z t h = taken_in AtLeast z t h
null_apart AtLeast false z t h = refl

-- of null: what is wanted
null_wanted : (c : Comparison) (b : Bool) (t : ℤ) → null <ℤ t → null_asked (takes_null c) b c (Some null) t ≡ verdict_of_test b
null_wanted Equal true t h = ap (λ (r : Bool). or_of (verdict_of_test r) True) (low_compares Equal null t h)
null_wanted Equal false t h = ap verdict_of_test (low_compares Equal null t h)
null_wanted NotEqual true t h = ap verdict_of_test (low_compares NotEqual null t h)
null_wanted NotEqual false t h = ap (λ (r : Bool). and_of (verdict_of_test r) False) (low_compares NotEqual null t h)
null_wanted Less true t h = ap (λ (r : Bool). and_of (verdict_of_test r) True) (low_compares Less null t h)
null_wanted Less false t h = ap (λ (r : Bool). and_of (and_of (verdict_of_test r) True) False) (low_compares Less null t h)
null_wanted AtMost true t h = ap (λ (r : Bool). and_of (verdict_of_test r) True) (low_compares AtMost null t h)
null_wanted AtMost false t h = ap (λ (r : Bool). and_of (and_of (verdict_of_test r) True) False) (low_compares AtMost null t h)
null_wanted Greater true t h = ap (λ (r : Bool). or_of (verdict_of_test r) True) (low_compares Greater null t h)
null_wanted Greater false t h = ap verdict_of_test (low_compares Greater null t h)
null_wanted AtLeast true t h = ap (λ (r : Bool). or_of (verdict_of_test r) True) (low_compares AtLeast null t h)
null_wanted AtLeast false t h = ap verdict_of_test (low_compares AtLeast null t h)

-- a constant stands for its decimal
constant_stands : (z : ℤ) (x : Fraction) (n : ℕ) → IsConstant z x n → StandsFor z x n
constant_stands z x n (minus, tens, e, fits, exact) c sign k small =
    let t : ℤ = signed sign (k * 10) in
    let p : ℕ = 10 ^ x.places in
    let some = pow_over_zero x.places in
    (compares_scaled c z t p some ∙ ap (λ (a : ℤ). compares c a (t *ℤ pos p)) exact, compares_scaled c t z p some ∙ ap (compares c (t *ℤ pos p)) exact)

constants_ordered : ComparesAsDecimals → (b : Bool) (c : Comparison) (z t : ℤ) (x y : Fraction) (n : ℕ) → IsConstant z x n → IsConstant t y n → compares (in_turn b c) z t ≡ in_order b (compares_exactly c) x y
constants_ordered law b c z t x y n hx hy = in_order_so b c z t x y (law z t x y n (constant_stands z x n hx) hy)

-- of each value, if all is reported
default_given : ComparesAsDecimals → (test : Test) (d : ShortDecimal) (z t : ℤ) (n : ℕ) (number : Option ℤ) (given : Option Given) → IsConstant z (fraction_of d) n → IsConstant t (fraction_of test.amount.number) n → IsAlike NullBeside n number given → null_asked (takes_null (in_turn test.turned test.comparison)) (compares (in_turn test.turned test.comparison) z t) (in_turn test.turned test.comparison) number t ≡ test_value test (applied (Default d) given)
default_given law test d z t n None None hx hy h = null_fault (takes_null (in_turn test.turned test.comparison)) (compares (in_turn test.turned test.comparison) z t) (in_turn test.turned test.comparison) t
default_given law test d z t n None (Some g) hx hy h = absurd h
default_given law test d z t n (Some k) None hx hy h = absurd h
default_given law test d z t n (Some k) (Some (Decimal x)) hx hy h =
    let c = in_turn test.turned test.comparison in
    let within = within_constant t (fraction_of test.amount.number) n hy in
    null_apart c (compares c z t) k t h.1.1.1.1 ∙ asked_so NullBeside test t (Some k) (Some (Decimal x)) within tt (agrees law NullBeside t (fraction_of test.amount.number) n (Some k) (Some (Decimal x)) hy h)
default_given law test d z t n (Some k) (Some NotANumber) hx hy h =
    let c = in_turn test.turned test.comparison in
    let within = within_constant t (fraction_of test.amount.number) n hy in
    let other : k ≢ null = λ e. absurd (omega (arith, ints, h.1)) in
    null_apart c (compares c z t) k t other ∙ asked_so NullBeside test t (Some k) (Some NotANumber) within tt h
default_given law test d z t n (Some k) (Some Infinite) hx hy h =
    let c = in_turn test.turned test.comparison in
    let within = within_constant t (fraction_of test.amount.number) n hy in
    let own : k ≡ infinite = h in
    let other : k ≢ null = λ e. absurd (omega (arith, ints, own)) in
    null_apart c (compares c z t) k t other ∙ asked_so NullBeside test t (Some k) (Some Infinite) within tt h
default_given law test d z t n (Some k) (Some MinusInfinite) hx hy h =
    let c = in_turn test.turned test.comparison in
    let within = within_constant t (fraction_of test.amount.number) n hy in
    let own : k ≡ minus_infinite = h in
    let other : k ≢ null = λ e. absurd (omega (arith, ints, own)) in
    null_apart c (compares c z t) k t other ∙ asked_so NullBeside test t (Some k) (Some MinusInfinite) within tt h
default_given law test d z t n (Some k) (Some (Text number)) hx hy h = absurd h
default_given law test d z t n (Some k) (Some Nothing) hx hy h =
    let c = in_turn test.turned test.comparison in
    ap (λ (j : ℤ). null_asked (takes_null c) (compares c z t) c (Some j) t) h.1
    ∙ null_wanted c (compares c z t) t (null_before t (within_constant t (fraction_of test.amount.number) n hy))
    ∙ ap verdict_of_test (constants_ordered law test.turned test.comparison z t (fraction_of d) (fraction_of test.amount.number) n hx hy)

null_only : (w : Beside) → has_null w ≡ true → w ≡ NullBeside
null_only NothingBeside e = absurd (false≢true e)
null_only NaNBeside e = absurd (false≢true e)
null_only InfiniteBeside e = absurd (false≢true e)
null_only NullBeside e = refl
null_only FloatTextBeside e = absurd (false≢true e)
null_only WholeTextBeside e = absurd (false≢true e)

default_so : ComparesAsDecimals → ShortConstants → (form : Form) (d : ShortDecimal) (test : Test) (a : DeskAtom) (m : Measured) (v : Value) → default_atom form d test ≡ Some a → IsReported form m v → value (atom_shape a) v ≡ test_value test (applied (Default d) (given_at test.look.place m))
default_so law short form d test a m v e h =
    let (has, made) = default_is form d test a e in
    let (z, (u, (number, (found, is)))) = null_is (constant_of d form.places) (value_test form test) a made in
    let parts = value_is form test u found in
    let own = operand_value u.operand v in
    let alike = subst (λ (w : Beside). IsAlike w form.places own (seen_as w (given_at test.look.place m))) (null_only form.beside has) (value_alike form.beside form.places form.shape test.look.place u.operand m v parts.0 h) in
    ap (λ (x : DeskAtom). value (atom_shape x) v) (sym is)
    ∙ null_shape (takes_null u.comparison) (compares u.comparison z u.constant) u v
    ∙ ap (λ (c : Comparison). null_asked (takes_null c) (compares c z u.constant) c own u.constant) (sym parts.1.0)
    ∙ default_given law test d z u.constant form.places own (seen_as NullBeside (given_at test.look.place m)) (constant_is short d form.places z number) (constant_is short test.amount.number form.places u.constant parts.1.1) alike
    ∙ ap (λ (g : Option Given). test_value test (applied (Default d) g)) (seen_plain NullBeside (given_at test.look.place m) refl)

function_so : ComparesAsDecimals → ShortConstants → (f : Function) (form : Form) (test : Test) (a : DeskAtom) (m : Measured) (v : Value) → function_atom f form test ≡ Some a → IsReported form m v → value (atom_shape a) v ≡ test_value test (applied f (given_at test.look.place m))
function_so law short Plain form test a m v e h = plain_so law short form test a m v e h
function_so law short AsFloat form test a m v e h =
    let so = float_so law short form test a m v e h in so.0 ∙ ap (test_value test) so.1
function_so law short AsInt form test a m v e h = int_so law short form test a m v e h
function_so law short (Default d) form test a m v e h = default_so law short form d test a m v e h

test_so : ComparesAsDecimals → ShortConstants → (form : Form) (test : Test) (a : DeskAtom) (m : Measured) (v : Value) → compare_atom form test ≡ Some a → IsReported form m v → value (atom_tree (compare_atom form test)) v ≡ test_value test (applied test.look.function (given_at test.look.place m))
test_so law short form test a m v e h =
    ap (λ (o : Option DeskAtom). value (atom_tree o) v) e ∙ function_so law short test.look.function form test a m v e h

-- ---- `isNaN` and `isInf`

no_nan : (z : ℤ) → z ≢ nan → compared Equal (Some z) (Some nan) ≡ False
no_nan z h = ap verdict_of_test (false_from_ne_true (int_eq z nan) (λ e. h ((Decides-int_eq z nan).0 e)))

nan_value_so : (w : Beside) (n : ℕ) (number : Option ℤ) (given : Option Given) → has_nan w ≡ true → has_null w ≡ false → IsAlike w n number given → compared Equal number (Some nan) ≡ nan_value given
nan_value_so w n None None has none h = refl
nan_value_so w n None (Some g) has none h = absurd h
nan_value_so w n (Some z) None has none h = absurd h
nan_value_so w n (Some z) (Some (Decimal x)) has none h = no_nan z (apart_nan w z h.1 has)
nan_value_so w n (Some z) (Some NotANumber) has none h = ap (λ (k : ℤ). compared Equal (Some k) (Some nan)) h.1
nan_value_so w n (Some z) (Some Infinite) has none h = no_nan z (λ e. plus_apart w (sym h ∙ e))
nan_value_so w n (Some z) (Some MinusInfinite) has none h = no_nan z (λ e. minus_apart w (sym h ∙ e))
nan_value_so w n (Some z) (Some Nothing) has none h = absurd (false≢true (sym none ∙ h.0))
nan_value_so w n (Some z) (Some (Text number)) has none h = absurd h

nan_so : (form : Form) (p : ResultPart) (a : DeskAtom) (m : Measured) (v : Value) → nan_atom form p ≡ Some a → IsReported form m v → value (atom_tree (nan_atom form p)) v ≡ nan_value (given_at p m)
nan_so form p a m v e h =
    let it = nan_is form p a e in
    let has = and_parts (has_nan form.beside) (is_plain form.beside) it.0 in
    let plain = plain_parts form.beside has.1 in
    let x = it.1.0 in
    let found = it.1.1.0 in
    let is = it.1.1.1 in
    ap (λ (o : Option DeskAtom). value (atom_tree o) v) e
    ∙ ap (λ (b : DeskAtom). value (atom_tree (Some b)) v) is
    ∙ nan_value_so form.beside form.places (operand_value x v) (seen_as form.beside (given_at p m)) has.0 plain.0 (value_alike form.beside form.places form.shape p x m v found h)
    ∙ ap nan_value (seen_plain form.beside (given_at p m) plain.1)

infinite_only : (w : Beside) → has_infinite w ≡ true → has_null w ≡ false → w ≡ InfiniteBeside
infinite_only NothingBeside e f = absurd (false≢true e)
infinite_only NaNBeside e f = absurd (false≢true e)
infinite_only InfiniteBeside e f = refl
infinite_only NullBeside e f = absurd (false≢true (sym f))
infinite_only FloatTextBeside e f = absurd (false≢true e)
infinite_only WholeTextBeside e f = absurd (false≢true e)

no_infinity : (z : ℤ) → z ≢ infinite → z ≢ minus_infinite → or_of (compared Equal (Some z) (Some infinite)) (compared Equal (Some z) (Some minus_infinite)) ≡ False
no_infinity z h l =
    ap (λ (r : Bool). or_of (verdict_of_test r) (compared Equal (Some z) (Some minus_infinite))) (false_from_ne_true (int_eq z infinite) (λ e. h ((Decides-int_eq z infinite).0 e)))
    ∙ ap verdict_of_test (false_from_ne_true (int_eq z minus_infinite) (λ e. l ((Decides-int_eq z minus_infinite).0 e)))

inf_value_so : (n : ℕ) (number : Option ℤ) (given : Option Given) → IsAlike InfiniteBeside n number given → or_of (compared Equal number (Some infinite)) (compared Equal number (Some minus_infinite)) ≡ inf_value given
inf_value_so n None None h = refl
inf_value_so n None (Some g) h = absurd h
inf_value_so n (Some z) None h = absurd h
inf_value_so n (Some z) (Some (Decimal x)) h = no_infinity z h.1.1.1 h.1.1.0
inf_value_so n (Some z) (Some NotANumber) h = ap (λ (k : ℤ). or_of (compared Equal (Some k) (Some infinite)) (compared Equal (Some k) (Some minus_infinite))) h.1
inf_value_so n (Some z) (Some Infinite) h = ap (λ (k : ℤ). or_of (compared Equal (Some k) (Some infinite)) (compared Equal (Some k) (Some minus_infinite))) h
inf_value_so n (Some z) (Some MinusInfinite) h = ap (λ (k : ℤ). or_of (compared Equal (Some k) (Some infinite)) (compared Equal (Some k) (Some minus_infinite))) h
inf_value_so n (Some z) (Some Nothing) h = absurd (false≢true h.0)
inf_value_so n (Some z) (Some (Text number)) h = absurd h

inf_so : (form : Form) (p : ResultPart) (a : DeskAtom) (m : Measured) (v : Value) → inf_atom form p ≡ Some a → IsReported form m v → value (atom_tree (inf_atom form p)) v ≡ inf_value (given_at p m)
inf_so form p a m v e h =
    let it = inf_is form p a e in
    let has = and_parts (has_infinite form.beside) (is_plain form.beside) it.0 in
    let plain = plain_parts form.beside has.1 in
    let x = it.1.0 in
    let found = it.1.1.0 in
    let is = it.1.1.1 in
    let only = infinite_only form.beside has.0 plain.0 in
    let alike = subst (λ (w : Beside). IsAlike w form.places (operand_value x v) (seen_as w (given_at p m))) only (value_alike form.beside form.places form.shape p x m v found h) in
    ap (λ (o : Option DeskAtom). value (atom_tree o) v) e
    ∙ ap (λ (b : DeskAtom). value (atom_tree (Some b)) v) is
    ∙ inf_value_so form.places (operand_value x v) (seen_as InfiniteBeside (given_at p m)) alike
    ∙ ap inf_value (seen_plain InfiniteBeside (given_at p m) refl)

-- ---- a tree

abbrev Fit : Form → List Item → Type 0
Fit form items = list_all (fits form) items ≡ true

parts_fit : (form : Form) (items front rest : List Item) (x : Item) → items ≡ front ++ x ∷ rest → Fit form items → Fit form front × Fit form rest
parts_fit form items front rest x e h =
    let parts = and_parts (list_all (fits form) front) (list_all (fits form) (x ∷ rest)) (sym (list_all-append (fits form) front (x ∷ rest)) ∙ ap (list_all (fits form)) (sym e) ∙ h) in
    (parts.0, (and_parts (fits form x) (list_all (fits form) rest) parts.1).1)

pub same_value : ComparesAsDecimals → ShortConstants → (form : Form) (T : Tree) (level : Level) (items : List Item) → SpellsItems T level items → Fit form items → SaysTheSame form T (desk_tree form T)
same_value law short form (Or a b) level items (h, front, rest, e, ha, hb) fit m v r =
    let parts = parts_fit form items front rest OrItem e fit in
    ap (λ (x : Verdict3). or_of x (value (desk_tree form b) v)) (same_value law short form a _ front ha parts.0 m v r)
    ∙ ap (or_of (argo_value a m)) (same_value law short form b _ rest hb parts.1 m v r)
same_value law short form (And a b) level items (h, front, rest, e, ha, hb) fit m v r =
    let parts = parts_fit form items front rest AndItem e fit in
    ap (λ (x : Verdict3). and_of x (value (desk_tree form b) v)) (same_value law short form a _ front ha parts.0 m v r)
    ∙ ap (and_of (argo_value a m)) (same_value law short form b _ rest hb parts.1 m v r)
same_value law short form (Not a) level items (h, rest, e, closed, ha) fit m v r =
    ap not_of (same_value law short form a _ rest ha (parts_fit form items [] rest NotItem e fit).1 m v r)
same_value law short form (Bracket a) level items (inside, e, ha) fit m v r =
    same_value law short form a _ inside ha (parts_fit form (inside ++ CloseGroup ∷ []) inside [] CloseGroup refl (parts_fit form items [] (inside ++ CloseGroup ∷ []) OpenGroup e fit).1).0 m v r
same_value law short form (Compare t) level items e fit m v r =
    let (a, is) = fit_is form t (ap (list_all (fits form)) (sym e) ∙ fit) in
    test_so law short form t a m v is r
same_value law short form (IsNaN p) level items e fit m v r =
    let (a, is) = nan_fit form p (ap (list_all (fits form)) (sym e) ∙ fit) in
    nan_so form p a m v is r
same_value law short form (IsInf p) level items e fit m v r =
    let (a, is) = inf_fit form p (ap (list_all (fits form)) (sym e) ∙ fit) in
    inf_so form p a m v is r

-- ---- texts

-- what groups have a desk's condition of signs, and fit, have a desk's condition that says the same
pub translated : ComparesAsDecimals → ShortConstants → (form : Form) (items : List Item) (signs : DeskTree) (other : DeskTree) (text : List ℕ) → are_closed false items ≡ true → IsConditionText (skeleton_of items) signs → Fit form items → text ≡ text_of form items → IsConditionText text other → IsTranslated items form text
translated law short form items signs other text closed (_, ts, e, (_, spelled)) fit own (len, us, f, (limits, _)) =
    let same = same_Some _ _ (sym (signs_of items) ∙ e) in
    let (T, h, _) = unspelled signs AtOr items false closed (subst (DeskSpells signs AtOr) (sym same) spelled) in
    let tokens = same_Some _ _ (sym (printed short form T AtOr items h fit) ∙ ap tokens_of (sym own) ∙ f) in
    let desk = subst (DeskSpells (desk_tree form T) AtOr) tokens (desk_spelled form T AtOr items h fit) in
    (T, h, desk_tree form T, (len, us, f, (limits, desk)), same_value law short form T AtOr items h fit)

-- so has a text that is made of the tokens of such groups
pub translation : (text : List ℕ) (form : Form) (ts : List ArgoToken) (items : List Item) (out : List ℕ) → IsMadeOf text ts → ts ≡ all_tokens items → IsTranslated items form out → IsTranslation text form out
translation text form ts items out made own (T, h, desk, condition, same) =
    (ts, T, made, subst (Spells T AtOr) (sym own) (spelled_tokens T AtOr items h), desk, condition, same)
