use Rattle.std.proofs.Common.{◌≡◌, ℕ, ◌<◌, drop, Some}
use Rattle.canary_decimal.specs.declared.shown.Units.{Units}
use Rattle.canary_decimal.specs.Endings.{units_of}
use Rattle.canary_decimal.proofs.shown.ending_of.Given as goal

-- no ending begins before this place
abbrev pub invariant-loop-place : goal.invariant-loop-place
invariant-loop-place l =
    (place : ℕ) (units : Units) → 0 < place → place < l.place → units_of (drop place l.label) ≡ Some units → ⊥
