-- Whole numbers as they stand, for labels that have no ending.
use Rattle.std.specs.Prelude.{◌≡◌, ◌*◌, ◌^◌, ◌<◌, ℤ, pos, ◌*ℤ◌}
use Rattle.std.specs.Int.RustNames.{unsigned_abs}
use Rattle.canary_condition.specs.declared.outcome.Value.{Value}
use Rattle.canary_condition.specs.declared.outcome.Value.TheVariants.{Whole}
use Rattle.canary_decimal.specs.Exactness.{Fraction}
use Rattle.canary_argo.specs.Meaning.{Measured}
use Rattle.canary_argo.specs.Meaning.Given.{Decimal}
use Rattle.canary_argo.specs.Meaning.Measured.{One}

-- the decimal is this whole number, and ten times that fits 64 bits
abbrev pub IsWholeOf : Fraction → ℤ → Type 0
IsWholeOf x z = (z *ℤ pos (10 ^ x.places) ≡ x.whole) × (unsigned_abs z * 10 < 2 ^ 63)

-- one whole number was measured, and it is the result
abbrev pub IsWhole : Measured → Value → Type 0
IsWhole (One (Decimal x)) (Whole z) = IsWholeOf x z
IsWhole m v = ⊥
