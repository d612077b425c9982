-- When a measurement that is due may end its release.
use Rattle.std.specs.Prelude.{ℕ, ◌-◌, ◌<◌, Option, MatchOption}
use Rattle.canary_agent.specs.declared.look.Due.{Due}

-- a limit is given, and at this moment it is late by more than that
abbrev pub IsTooLate : Option ℕ → ℕ → Due → Type 0
IsTooLate limit moment due = MatchOption limit ⊥ (λ seconds. seconds < (moment - due.since))
