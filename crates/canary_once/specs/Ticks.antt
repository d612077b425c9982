-- The moments that a clock of steps gives.
use Rattle.std.specs.Prelude.{◌≡◌, ℕ, ◌+◌, ◌*◌, min}

-- the k-th, from 0, is k steps after the first, and at most the greatest moment
abbrev pub TellsSteps : ℕ → ℕ → (ℕ → ℕ) → Type 0
TellsSteps at step moment_at = (k : ℕ) → moment_at k ≡ min (at + k * step) 253370764799
