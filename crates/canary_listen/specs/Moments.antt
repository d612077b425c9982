-- What the machine's clock reports.
use Rattle.std.specs.Prelude.{ℕ, Option, None, Some, min}

-- after the last moment, if the machine reads so many seconds: those, and at most the greatest
-- moment; if it reads none, the last moment again
abbrev pub next_moment : ℕ → Option ℕ → ℕ
next_moment last None = last
next_moment last (Some seconds) = min seconds 253370764799
