-- What a condition of Argo Rollouts says of what was measured.
use Rattle.std.specs.Prelude.{ℕ, suc, ◌/◌, ◌^◌, ℤ, pos, negsuc, neg_ℤ, Bool, true, false, Option, Some, None, List, length, slice_get}
use Rattle.canary_condition.specs.declared.condition.Comparison.{Comparison}
use Rattle.canary_condition.specs.declared.condition.Comparison.TheVariants.{NotEqual}
use Rattle.canary_condition.specs.declared.condition.Verdict3.{Verdict3}
use Rattle.canary_condition.specs.declared.condition.Verdict3.TheVariants.{True, False, Fault}
use Rattle.canary_condition.specs.Meaning.{compares, verdict_of_test, or_of, and_of, not_of}
use Rattle.canary_decimal.specs.Exactness.{Fraction, compares_exactly}
use Rattle.canary_decimal.specs.Short.{fraction_of}
use Rattle.canary_decimal.specs.declared.reading.Reading.{Reading}
use Rattle.canary_decimal.specs.declared.reading.Reading.TheVariants.{Number, NotANumber as NotANumberRead, Infinite as InfiniteRead, MinusInfinite as MinusInfiniteRead}
use Rattle.canary_decimal.specs.declared.text.TextNumber.{TextNumber}
use Rattle.canary_decimal.specs.declared.text.TextNumber.TheVariants.{Whole as WholeNumber, Float as FloatNumber, Other as OtherText}
use Rattle.canary_argo.specs.declared.condition.Function.{Function}
use Rattle.canary_argo.specs.declared.condition.Function.TheVariants.{Plain, AsFloat, AsInt, Default}
use Rattle.canary_argo.specs.declared.condition.ResultPart.{ResultPart}
use Rattle.canary_argo.specs.declared.condition.ResultPart.TheVariants.{Whole, Item, Length}
use Rattle.canary_argo.specs.declared.condition.Test.{Test}
use Rattle.canary_argo.specs.Trees.{Tree}
use Rattle.canary_argo.specs.Trees.Tree.{Or, And, Not, Bracket, Compare, IsNaN, IsInf}

-- a value that a provider gives; of a text, what Go's ParseFloat and ParseInt make of it
pub data Given : Type 0 where
  Decimal : (x : Fraction) → Given
  NotANumber : Given
  Infinite : Given
  MinusInfinite : Given
  Nothing : Given
  Text : (number : TextNumber) → Given

-- a value as it was read
abbrev pub given_of : Reading → Given
given_of (Number x) = Decimal x
given_of NotANumberRead = NotANumber
given_of InfiniteRead = Infinite
given_of MinusInfiniteRead = MinusInfinite

-- what was measured: one value, or a list
pub data Measured : Type 0 where
  One : (value : Given) → Measured
  Several : (values : List Given) → Measured

-- the value at a place, or the length of a list, or none
abbrev pub given_at : ResultPart → Measured → Option Given
given_at Whole (One g) = Some g
given_at Whole (Several gs) = None
given_at (Item i) (One g) = None
given_at (Item i) (Several gs) = slice_get gs i
given_at Length (One g) = None
given_at Length (Several gs) = Some (Decimal (record { whole = pos (length gs); places = 0 }))

-- whether a comparison of NaN with a number holds
abbrev pub compares_nan : Comparison → Bool
compares_nan NotEqual = true
compares_nan c = false

-- two numbers in the order in which they stand
abbrev pub in_order : {A : Type 0} → Bool → (A → A → Bool) → A → A → Bool
in_order true f x y = f y x
in_order false f x y = f x y

-- What a comparison says of a value: an infinity compares to each number as 1 or -1 does to 0, and
-- nothing and a text are faults.
abbrev pub test_value : Test → Option Given → Verdict3
test_value t (Some (Decimal x)) =
    verdict_of_test
    (in_order t.turned (compares_exactly t.comparison) x (fraction_of t.amount.number))
test_value t (Some NotANumber) = verdict_of_test (compares_nan t.comparison)
test_value t (Some Infinite) =
    verdict_of_test (in_order t.turned (compares t.comparison) (pos 1) (pos 0))
test_value t (Some MinusInfinite) =
    verdict_of_test (in_order t.turned (compares t.comparison) (pos 0) (pos 1))
test_value t (Some Nothing) = Fault
test_value t (Some (Text number)) = Fault
test_value t None = Fault

-- a decimal, cut off towards 0
abbrev pub whole_of : ℤ → ℕ → ℤ
whole_of (pos n) unit = pos (n / unit)
whole_of (negsuc n) unit = neg_ℤ (pos (suc n / unit))

abbrev pub cut_off : Fraction → Fraction
cut_off x = record { whole = whole_of x.whole (10 ^ x.places); places = 0 }

-- what `asFloat` makes of a text: ParseFloat's number
abbrev pub as_float : TextNumber → Option Given
as_float (WholeNumber x) = Some (Decimal x)
as_float (FloatNumber reading) = Some (given_of reading)
as_float OtherText = None

-- what `asInt` makes of a text: ParseInt's number, of which nothing is cut off
abbrev pub as_int : TextNumber → Option Given
as_int (WholeNumber x) = Some (Decimal (cut_off x))
as_int number = None

-- What a function makes of a value, or none if that is a fault. `asFloat` of a number is that
-- number. `asInt` cuts off towards 0. What Argo's makes of NaN, of an infinity and of 2^63 and more
-- depends on the processor. Here NaN is a fault, and the others stay beyond each constant, as on
-- arm64. `default` stands round the whole result alone: in Argo it gives the whole result, whatever
-- it stands round.
abbrev pub applied : Function → Option Given → Option Given
applied Plain given = given
applied AsFloat (Some (Text number)) = as_float number
applied AsFloat given = given
applied AsInt (Some (Decimal x)) = Some (Decimal (cut_off x))
applied AsInt (Some (Text number)) = as_int number
applied AsInt (Some Infinite) = Some Infinite
applied AsInt (Some MinusInfinite) = Some MinusInfinite
applied AsInt given = None
applied (Default d) (Some Nothing) = Some (Decimal (fraction_of d))
applied (Default d) given = given

-- what `isNaN` says of a value
abbrev pub nan_value : Option Given → Verdict3
nan_value (Some NotANumber) = True
nan_value (Some Nothing) = Fault
nan_value (Some (Text number)) = Fault
nan_value (Some given) = False
nan_value None = Fault

-- what `isInf` says of a value
abbrev pub inf_value : Option Given → Verdict3
inf_value (Some Infinite) = True
inf_value (Some MinusInfinite) = True
inf_value (Some Nothing) = Fault
inf_value (Some (Text number)) = Fault
inf_value (Some given) = False
inf_value None = Fault

-- the value of a tree at what was measured
abbrev pub argo_value : Tree → Measured → Verdict3
argo_value (Or a b) m = or_of (argo_value a m) (argo_value b m)
argo_value (And a b) m = and_of (argo_value a m) (argo_value b m)
argo_value (Not a) m = not_of (argo_value a m)
argo_value (Bracket a) m = argo_value a m
argo_value (Compare test) m =
    test_value test (applied test.look.function (given_at test.look.place m))
argo_value (IsNaN place) m = nan_value (given_at place m)
argo_value (IsInf place) m = inf_value (given_at place m)
