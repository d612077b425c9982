-- Sums of what is owed.
use Rattle.std.specs.Prelude.{ℕ, ◌+◌, ◌-◌, min}

-- a sum with one part in place of another, at most the greatest `usize`
abbrev pub in_place_of : ℕ → ℕ → ℕ → ℕ
in_place_of sum old new = min (sum - old + new) 18446744073709551615
