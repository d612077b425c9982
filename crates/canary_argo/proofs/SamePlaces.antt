-- A comparison of one place: what the desk has there, and what Argo has.
use Rattle.std.proofs.Common.{pos, negsuc, ◌≡◌, ℕ, zero, suc, ◌<◌, ℤ, Bool, true, false, not, List, [], ◌∷◌, take, Option, Some, None, refl, sym, ap, ◌∙◌, subst, arith}
use Rattle.std.specs.Prelude.{◌&&◌, ◌==◌, ◌^◌, ◌*ℤ◌, ◌≢◌, nat_lt, slice_get, length}
use Rattle.std.specs.Ordering.{int_eq}
use Rattle.std.proofs.lemmas.Bool.{false≢true, and_parts, ltb-true}
use Rattle.std.proofs.lemmas.Bool.Decides.{nat_tests, Decides-int_eq, same_from_decides}
use Rattle.std.proofs.lemmas.Option.{none-some, same_Some, cond_some}
use Rattle.canary_condition.specs.declared.condition.Comparison.{Comparison}
use Rattle.canary_condition.specs.declared.condition.Comparison.TheVariants.{Equal, NotEqual, Less, AtMost, Greater, AtLeast}
use Rattle.canary_condition.specs.declared.condition.Operand.{Operand}
use Rattle.canary_condition.specs.declared.condition.Operand.TheVariants.{Whole as WholeOperand, Item as ItemOperand}
use Rattle.canary_condition.specs.declared.outcome.Value.{Value}
use Rattle.canary_condition.specs.declared.outcome.Value.TheVariants.{Whole as WholeResult, List as ListResult}
use Rattle.canary_condition.specs.Meaning.{operand_value, compares}
use Rattle.canary_decimal.specs.Exactness.{Fraction, compares_exactly, ComparesAsDecimals, IsConstant}
use Rattle.canary_decimal.specs.Short.{fraction_of, ShortConstants}
use Rattle.canary_decimal.specs.declared.decimal.ShortDecimal.{ShortDecimal}
use Rattle.std.proofs.lemmas.Int.{ints}
use Rattle.canary_decimal.specs.declared.shown.Beside.{Beside}
use Rattle.canary_decimal.specs.declared.shown.Beside.TheVariants.{Nothing as NothingBeside, NaN as NaNBeside, Infinite as InfiniteBeside, Null as NullBeside, FloatText as FloatTextBeside, WholeText as WholeTextBeside}
use Rattle.canary_argo.specs.declared.condition.ResultPart.{ResultPart}
use Rattle.canary_argo.specs.declared.condition.ResultPart.TheVariants.{Whole, Item as ItemPlace, Length as LengthPlace}
use Rattle.canary_argo.specs.declared.form.Shape.{Shape}
use Rattle.canary_argo.specs.declared.form.Shape.TheVariants.{One as OneShape, First, Several as SeveralShape, Length as LengthShape}
use Rattle.canary_argo.specs.Meaning.{Given, Measured, given_at, in_order}
use Rattle.canary_argo.specs.Meaning.Given.{Decimal, NotANumber, Infinite, MinusInfinite, Nothing, Text}
use Rattle.canary_argo.specs.Meaning.Measured.{One, Several}
use Rattle.canary_argo.specs.Reporting.{nan, null, has_nan, has_null, above_all, below_all, IsApart, as_read, StandsRead, AllStand, IsReportedAs}
use Rattle.canary_argo.specs.Translating.{desk_place, turned, in_turn, length_of, constant_at}
use Rattle.canary_argo.proofs.PrintedTests.{length_is, constant_is}

-- ---- a place

-- a value as it is reported
abbrev pub seen_as : Beside → Option Given → Option Given
seen_as w None = None
seen_as w (Some g) = Some (as_read g w)

-- what the desk has at an operand, and Argo at a place as it is reported: both nothing, or a number
-- that stands for what was read
abbrev pub IsAlike : Beside → ℕ → Option ℤ → Option Given → Type 0
IsAlike w n None None = Unit {0}
IsAlike w n (Some z) (Some g) = StandsRead w n g z
IsAlike w n number given = ⊥

item_alike : (w : Beside) (n most : ℕ) (gs : List Given) (zs : List ℤ) (i : ℕ) → i < most → AllStand w n (take most gs) zs → IsAlike w n (slice_get zs i) (seen_as w (slice_get gs i))
item_alike w n zero gs zs i less h = absurd (omega arith)
item_alike w n (suc most) [] [] i less h = tt
item_alike w n (suc most) [] (z ∷ zs) i less h = absurd h
item_alike w n (suc most) (g ∷ gs) [] i less h = absurd h
item_alike w n (suc most) (g ∷ gs) (z ∷ zs) zero less h = h.0
item_alike w n (suc most) (g ∷ gs) (z ∷ zs) (suc i) less h = item_alike w n most gs zs i (omega arith) h.1

-- a value of a list, or the one value
abbrev IsValue : ResultPart → Type 0
IsValue LengthPlace = ⊥
IsValue place = Unit {0}

pub place_alike : (w : Beside) (n : ℕ) (shape : Shape) (p : ResultPart) (o : Operand) (m : Measured) (v : Value) → IsValue p → desk_place shape p ≡ Some o → IsReportedAs w n shape m v → IsAlike w n (operand_value o v) (seen_as w (given_at p m))
place_alike w n shape LengthPlace o m v is e h = absurd is
place_alike w n OneShape Whole o (One g) (WholeResult z) is e h =
    subst (λ (k : Operand). IsAlike w n (operand_value k (WholeResult z)) (seen_as w (Some g))) (same_Some WholeOperand o e) h
place_alike w n OneShape Whole o (One g) (ListResult zs) is e h = absurd h
place_alike w n OneShape Whole o (Several gs) v is e h = absurd h
place_alike w n OneShape (ItemPlace i) o m v is e h = absurd (none-some o e)
place_alike w n First (ItemPlace i) o (One g) v is e h = absurd h
place_alike w n First (ItemPlace i) o (Several []) v is e h = absurd h
place_alike w n First (ItemPlace i) o (Several (g ∷ gs)) (ListResult zs) is e h = absurd h
place_alike w n First Whole o m v is e h = absurd (none-some o e)
place_alike w n First (ItemPlace i) o (Several (g ∷ gs)) (WholeResult z) is e h =
    let found = cond_some (i == 0) WholeOperand o e in
    let none : i ≡ 0 = grind (arith, nat_tests) in
    subst (λ (k : Operand). IsAlike w n (operand_value k (WholeResult z)) (seen_as w (slice_get (g ∷ gs) i))) found.1
    (subst (λ (j : ℕ). IsAlike w n (Some z) (seen_as w (slice_get (g ∷ gs) j))) (sym none) h)
place_alike w n (SeveralShape most) (ItemPlace i) o (One g) v is e h = absurd h
place_alike w n (SeveralShape most) (ItemPlace i) o (Several gs) (WholeResult z) is e h = absurd h
place_alike w n (SeveralShape most) Whole o m v is e h = absurd (none-some o e)
place_alike w n (SeveralShape most) (ItemPlace i) o (Several gs) (ListResult zs) is e h =
    let found = cond_some (nat_lt i most && nat_lt most 17) (ItemOperand i) o e in
    let less = ltb-true i most (and_parts (nat_lt i most) (nat_lt most 17) found.0).0 in
    subst (λ (k : Operand). IsAlike w n (operand_value k (ListResult zs)) (seen_as w (slice_get gs i))) found.1 (item_alike w n most gs zs i less h)
place_alike w n (LengthShape most) (ItemPlace i) o (One g) v is e h = absurd h
place_alike w n (LengthShape most) (ItemPlace i) o (Several gs) (WholeResult z) is e h = absurd h
place_alike w n (LengthShape most) (ItemPlace i) o (Several gs) (ListResult []) is e h = absurd h
place_alike w n (LengthShape most) Whole o m v is e h = absurd (none-some o e)
place_alike w n (LengthShape most) (ItemPlace i) o (Several gs) (ListResult (z ∷ zs)) is e h =
    let found = cond_some (nat_lt i most && nat_lt most 16) (ItemOperand (suc i)) o e in
    let less = ltb-true i most (and_parts (nat_lt i most) (nat_lt most 16) found.0).0 in
    subst (λ (k : Operand). IsAlike w n (operand_value k (ListResult (z ∷ zs))) (seen_as w (slice_get gs i))) found.1 (item_alike w n most gs zs i less h.1)

-- ---- a comparison

int_eq_turned : (x y : ℤ) → int_eq x y ≡ int_eq y x
int_eq_turned x y = same_from_decides (int_eq x y) (int_eq y x) (Decides-int_eq x y) ((λ e. sym ((Decides-int_eq y x).0 e)), (λ e. (Decides-int_eq y x).1 (sym e)))

pub compares_turned : (c : Comparison) (x y : ℤ) → compares (turned c) x y ≡ compares c y x
compares_turned Equal x y = int_eq_turned x y
compares_turned NotEqual x y = ap not (int_eq_turned x y)
compares_turned Less x y = refl
compares_turned AtMost x y = refl
compares_turned Greater x y = refl
compares_turned AtLeast x y = refl

-- what the desk has compares to a constant as what Argo has does to a decimal, whichever stands
-- first; or it is what is reported of what is no decimal
abbrev pub Agrees : Beside → ℤ → Fraction → Option ℤ → Option Given → Type 0
Agrees w t y None None = Unit {0}
Agrees w t y (Some z) (Some (Decimal x)) =
    ((c : Comparison) → (compares c z t ≡ compares_exactly c x y) × (compares c t z ≡ compares_exactly c y x)) × (has_nan w ≡ true → z ≢ nan)
Agrees w t y (Some z) (Some NotANumber) = (has_nan w ≡ true) × (z ≡ nan)
Agrees w t y (Some z) (Some Infinite) = z ≡ above_all w
Agrees w t y (Some z) (Some MinusInfinite) = z ≡ below_all w
Agrees w t y (Some z) (Some Nothing) = (has_null w ≡ true) × (z ≡ null)
Agrees w t y number given = ⊥

pub apart_nan : (w : Beside) (z : ℤ) → IsApart w z → has_nan w ≡ true → z ≢ nan
apart_nan NothingBeside z h e = absurd (false≢true e)
apart_nan NaNBeside z h e = h
apart_nan InfiniteBeside z h e = h.0
apart_nan NullBeside z h e = h.0
apart_nan FloatTextBeside z h e = h
apart_nan WholeTextBeside z h e = absurd (false≢true e)

pub agrees : ComparesAsDecimals → (w : Beside) (t : ℤ) (y : Fraction) (n : ℕ) (number : Option ℤ) (given : Option Given) → IsConstant t y n → IsAlike w n number given → Agrees w t y number given
agrees law w t y n None None constant h = tt
agrees law w t y n None (Some g) constant h = absurd h
agrees law w t y n (Some z) None constant h = absurd h
agrees law w t y n (Some z) (Some (Decimal x)) constant h = (law z t x y n h.0 constant, apart_nan w z h.1)
agrees law w t y n (Some z) (Some NotANumber) constant h = h
agrees law w t y n (Some z) (Some Infinite) constant h = h
agrees law w t y n (Some z) (Some MinusInfinite) constant h = h
agrees law w t y n (Some z) (Some Nothing) constant h = h
agrees law w t y n (Some z) (Some (Text number)) constant h = absurd h

apart_pos : (n : ℕ) → pos n ≢ nan
apart_pos n e = absurd (omega (arith, ints))

pub times_one : (z : ℤ) → z *ℤ pos 1 ≡ z
times_one (pos n) = omega (arith, ints)
times_one (negsuc n) = omega (arith, ints)

length_agrees : (w : Beside) (number : ShortDecimal) (t z : ℤ) → z ≢ nan → length_of number ≡ Some t → Agrees w t (fraction_of number) (Some z) (Some (Decimal (record { whole = z; places = 0 })))
length_agrees w number t z apart e =
    let parts = length_is number t e in
    let whole : number.whole *ℤ pos (10 ^ 0) ≡ t = times_one number.whole ∙ parts.1.0 in
    let own : z *ℤ pos (10 ^ number.places) ≡ z = ap (λ (k : ℕ). z *ℤ pos (10 ^ k)) parts.0 ∙ times_one z in
    (λ c. (ap (λ (a : ℤ). compares c a t) (sym own) ∙ ap (λ (b : ℤ). compares c (z *ℤ pos (10 ^ number.places)) b) (sym whole), ap (λ (b : ℤ). compares c b z) (sym whole) ∙ ap (λ (a : ℤ). compares c (number.whole *ℤ pos (10 ^ 0)) a) (sym own)), λ _. apart)

pub place_agrees : ComparesAsDecimals → ShortConstants → (w : Beside) (n : ℕ) (shape : Shape) (p : ResultPart) (number : ShortDecimal) (o : Operand) (t : ℤ) (m : Measured) (v : Value) → desk_place shape p ≡ Some o → constant_at p number n ≡ Some t → IsReportedAs w n shape m v → Agrees w t (fraction_of number) (operand_value o v) (seen_as w (given_at p m))
place_agrees law short w n shape Whole number o t m v e f h =
    agrees law w t (fraction_of number) n (operand_value o v) (seen_as w (given_at Whole m)) (constant_is short number n t f) (place_alike w n shape Whole o m v tt e h)
place_agrees law short w n shape (ItemPlace i) number o t m v e f h =
    agrees law w t (fraction_of number) n (operand_value o v) (seen_as w (given_at (ItemPlace i) m)) (constant_is short number n t f) (place_alike w n shape (ItemPlace i) o m v tt e h)
place_agrees law short w n OneShape LengthPlace number o t m v e f h = absurd (none-some o e)
place_agrees law short w n First LengthPlace number o t m v e f h = absurd (none-some o e)
place_agrees law short w n (SeveralShape most) LengthPlace number o t m v e f h = absurd (none-some o e)
place_agrees law short w n (LengthShape most) LengthPlace number o t (One g) v e f h = absurd h
place_agrees law short w n (LengthShape most) LengthPlace number o t (Several gs) (WholeResult z) e f h = absurd h
place_agrees law short w n (LengthShape most) LengthPlace number o t (Several gs) (ListResult []) e f h = absurd h
place_agrees law short w n (LengthShape most) LengthPlace number o t (Several gs) (ListResult (z ∷ zs)) e f h =
    subst (λ (k : Operand). Agrees w t (fraction_of number) (operand_value k (ListResult (z ∷ zs))) (Some (Decimal (record { whole = pos (length gs); places = 0 })))) (same_Some (ItemOperand 0) o e)
    (subst (λ (k : ℤ). Agrees w t (fraction_of number) (Some k) (Some (Decimal (record { whole = pos (length gs); places = 0 })))) (sym h.0) (length_agrees w number t (pos (length gs)) (apart_pos (length gs)) f))

pub in_order_so : (b : Bool) (c : Comparison) (z t : ℤ) (x y : Fraction) → ((k : Comparison) → (compares k z t ≡ compares_exactly k x y) × (compares k t z ≡ compares_exactly k y x)) → compares (in_turn b c) z t ≡ in_order b (compares_exactly c) x y
in_order_so true c z t x y h = compares_turned c z t ∙ (h c).1
in_order_so false c z t x y h = (h c).0
