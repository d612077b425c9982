-- No multiple is what is reported of what is no decimal.
use Rattle.std.proofs.Common.{ℤ, pos, negsuc, arith}
use Rattle.std.specs.Prelude.{◌≤ℤ◌}
use Rattle.std.proofs.lemmas.Int.{ints}
use Rattle.canary_decimal.specs.declared.shown.Beside.{Beside}
use Rattle.canary_decimal.specs.declared.shown.Beside.TheVariants.{Nothing, NaN, Infinite, Null, FloatText, WholeText}
use Rattle.canary_argo.specs.Reporting.{IsApart}

pub apart_all : (w : Beside) (z : ℤ) → negsuc 9223372036854775802 ≤ℤ z → z ≤ℤ pos 9223372036854775803 → IsApart w z
apart_all Nothing z low high = tt
apart_all NaN z low high = λ e. absurd (omega (arith, ints))
apart_all FloatText z low high = λ e. absurd (omega (arith, ints))
apart_all WholeText z low high = tt
apart_all Infinite z low high = (λ e. absurd (omega (arith, ints)), (λ e. absurd (omega (arith, ints)), λ e. absurd (omega (arith, ints))))
apart_all Null z low high = (λ e. absurd (omega (arith, ints)), (λ e. absurd (omega (arith, ints)), (λ e. absurd (omega (arith, ints)), λ e. absurd (omega (arith, ints)))))
