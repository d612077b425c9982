-- What is reported of what was measured.
use Rattle.std.specs.Prelude.{◌≡◌, ◌≢◌, ℕ, ℤ, pos, negsuc, ◌<ℤ◌, Bool, true, false, if◌then◌else◌, List, [], ◌∷◌, length, take}
use Rattle.canary_condition.specs.declared.outcome.Value.{Value}
use Rattle.canary_condition.specs.declared.outcome.Value.TheVariants.{Whole as WholeResult, List as ListResult}
use Rattle.canary_decimal.specs.Exactness.{StandsFor}
use Rattle.canary_decimal.specs.declared.shown.Beside.{Beside}
use Rattle.canary_decimal.specs.declared.shown.Beside.TheVariants.{Nothing as NothingBeside, NaN as NaNBeside, Infinite as InfiniteBeside, Null as NullBeside, FloatText as FloatTextBeside, WholeText as WholeTextBeside}
use Rattle.canary_decimal.specs.declared.text.TextNumber.{TextNumber}
use Rattle.canary_decimal.specs.declared.text.TextNumber.TheVariants.{Whole as WholeNumber, Float as FloatNumber}
use Rattle.canary_argo.specs.declared.form.Form.{Form}
use Rattle.canary_argo.specs.declared.form.Shape.{Shape}
use Rattle.canary_argo.specs.declared.form.Shape.TheVariants.{One as OneShape, First, Several as SeveralShape, Length as LengthShape}
use Rattle.canary_argo.specs.Meaning.{Given, Measured, given_of}
use Rattle.canary_argo.specs.Meaning.Given.{Decimal, NotANumber, Infinite, MinusInfinite, Nothing, Text}
use Rattle.canary_argo.specs.Meaning.Measured.{One, Several}

-- what is reported of what is no decimal, if it is reported
abbrev pub nan : ℤ
nan = negsuc 9223372036854775807

abbrev pub minus_infinite : ℤ
minus_infinite = negsuc 9223372036854775806

abbrev pub null : ℤ
null = negsuc 9223372036854775805

abbrev pub infinite : ℤ
infinite = pos 9223372036854775807

abbrev pub has_nan : Beside → Bool
has_nan NothingBeside = false
has_nan WholeTextBeside = false
has_nan beside = true

abbrev pub has_infinite : Beside → Bool
has_infinite InfiniteBeside = true
has_infinite NullBeside = true
has_infinite beside = false

abbrev pub has_null : Beside → Bool
has_null NullBeside = true
has_null beside = false

abbrev pub has_texts : Beside → Bool
has_texts FloatTextBeside = true
has_texts WholeTextBeside = true
has_texts beside = false

-- neither null nor a text is reported as a number
abbrev pub is_plain : Beside → Bool
is_plain NothingBeside = true
is_plain NaNBeside = true
is_plain InfiniteBeside = true
is_plain beside = false

-- what is reported of an infinity that has no number of its own: the greatest number that is
-- reported of a decimal, and its negative
abbrev pub greatest : ℤ
greatest = pos 9223372036854775803

abbrev pub least : ℤ
least = negsuc 9223372036854775802

-- THE BOUND: a constant of a condition lies between these, so that an infinity is beyond it
abbrev pub IsBetween : ℤ → Type 0
IsBetween t = (least <ℤ t) × (t <ℤ greatest)

-- what is reported of each infinity
abbrev pub above_all : Beside → ℤ
above_all beside = if has_infinite beside then infinite else greatest

abbrev pub below_all : Beside → ℤ
below_all beside = if has_infinite beside then minus_infinite else least

-- no number that is reported of a decimal is one of these, if they are reported
abbrev pub IsApart : Beside → ℤ → Type 0
IsApart NothingBeside z = Unit {0}
IsApart NaNBeside z = z ≢ nan
IsApart InfiniteBeside z = (z ≢ nan) × ((z ≢ minus_infinite) × (z ≢ infinite))
IsApart FloatTextBeside z = z ≢ nan
IsApart WholeTextBeside z = Unit {0}
IsApart NullBeside z = (z ≢ nan) × ((z ≢ minus_infinite) × ((z ≢ infinite) × (z ≢ null)))

-- a text as it is reported: as a number, if texts are read and this is one
abbrev pub text_as : Beside → TextNumber → Given
text_as FloatTextBeside (WholeNumber x) = Decimal x
text_as FloatTextBeside (FloatNumber reading) = given_of reading
text_as WholeTextBeside (WholeNumber x) = Decimal x
text_as beside number = Text number

abbrev pub as_read : Given → Beside → Given
as_read (Text number) beside = text_as beside number
as_read given beside = given

-- The number stands for what was read, in units of 10^-n. An infinity always has one. No number
-- stands for NaN or null, which are reported as failures, but where they are reported beside
-- decimals, nor for a text.
abbrev pub StandsRead : Beside → ℕ → Given → ℤ → Type 0
StandsRead beside n (Decimal x) z = StandsFor z x n × IsApart beside z
StandsRead beside n NotANumber z = (has_nan beside ≡ true) × (z ≡ nan)
StandsRead beside n Infinite z = z ≡ above_all beside
StandsRead beside n MinusInfinite z = z ≡ below_all beside
StandsRead beside n Nothing z = (has_null beside ≡ true) × (z ≡ null)
StandsRead beside n (Text number) z = ⊥

-- the number stands for the value
abbrev pub Stands : Beside → ℕ → Given → ℤ → Type 0
Stands beside n given z = StandsRead beside n (as_read given beside) z

abbrev pub AllStand : Beside → ℕ → List Given → List ℤ → Type 0
AllStand beside n [] [] = Unit {0}
AllStand beside n (g ∷ gs) (z ∷ zs) = Stands beside n g z × AllStand beside n gs zs
AllStand beside n [] (z ∷ zs) = ⊥
AllStand beside n (g ∷ gs) [] = ⊥

abbrev pub IsReportedAs : Beside → ℕ → Shape → Measured → Value → Type 0
IsReportedAs beside n OneShape (One g) (WholeResult z) = Stands beside n g z
IsReportedAs beside n First (Several (g ∷ gs)) (WholeResult z) = Stands beside n g z
IsReportedAs beside n (SeveralShape most) (Several gs) (ListResult zs) =
    AllStand beside n (take most gs) zs
IsReportedAs beside n (LengthShape most) (Several gs) (ListResult (z ∷ zs)) =
    (z ≡ pos (length gs)) × AllStand beside n (take most gs) zs
IsReportedAs beside n shape m v = ⊥

-- in this form the value is what is reported of what was measured
abbrev pub IsReported : Form → Measured → Value → Type 0
IsReported form m v = IsReportedAs form.beside form.places form.shape m v
