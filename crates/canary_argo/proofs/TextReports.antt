-- What is reported of a text that ParseFloat reads is what is reported of the number in it.
use Rattle.std.proofs.Common.{◌≡◌, ℕ, ℤ, sym, subst, Option}
use Rattle.std.specs.Prelude.{MatchOption}
use Rattle.canary_decimal.specs.declared.reading.Reading.{Reading}
use Rattle.canary_decimal.specs.declared.reading.Reading.TheVariants.{Number, NotANumber, Infinite, MinusInfinite}
use Rattle.canary_decimal.specs.declared.shown.Beside.{Beside}
use Rattle.canary_decimal.specs.declared.shown.Beside.TheVariants.{FloatText}
use Rattle.canary_decimal.specs.declared.text.TextNumber.{TextNumber}
use Rattle.canary_decimal.specs.declared.text.TextNumber.TheVariants.{Float}
use Rattle.canary_argo.specs.Meaning.{Given, given_of}
use Rattle.canary_argo.specs.Meaning.Given.{Text}
use Rattle.canary_argo.specs.Reporting.{Stands}

-- what is reported of a value, or that nothing is
abbrev IsNumberOf : Beside → ℕ → Given → Option ℤ → Type 0
IsNumberOf w n given number =
    MatchOption number ((z : ℤ) → ¬ Stands w n given z) (λ z. Stands w n given z)

as_read_so : (n : ℕ) (reading : Reading) (number : Option ℤ) → IsNumberOf FloatText n (given_of reading) number → IsNumberOf FloatText n (Text (Float reading)) number
as_read_so n (Number x) number h = h
as_read_so n NotANumber number h = h
as_read_so n Infinite number h = h
as_read_so n MinusInfinite number h = h

pub float_reported : (w : Beside) (n : ℕ) (text : TextNumber) (reading : Reading) (number : Option ℤ) → w ≡ FloatText → text ≡ Float reading → IsNumberOf w n (given_of reading) number → IsNumberOf w n (Text text) number
float_reported w n text reading number e f h =
    subst (λ (t : TextNumber). IsNumberOf w n (Text t) number) (sym f)
    (subst (λ (b : Beside). IsNumberOf b n (Text (Float reading)) number) (sym e) (as_read_so n reading number (subst (λ (b : Beside). IsNumberOf b n (given_of reading) number) e h)))
