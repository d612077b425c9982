-- What is taken out of the measurements that are being taken.
use Rattle.std.specs.Prelude.{◌≡◌, ◌==◌, if◌then◌else◌, ℕ, Bool, Option, Some, None, option_map, is_none}
use Rattle.canary_agent.specs.declared.taken.Taken.{Taken}
use Rattle.canary_agent.specs.declared.taking.TakeResult.{TakeResult}
use Rattle.canary_agent.specs.declared.taking.TakeResult.TheVariants as part
use Rattle.canary_agent.specs.declared.taking.Taking.{Taking}

-- what came of a measurement, if it is of the run and that is there
abbrev pub taken_of : ℕ → Taking → Option Taken
taken_of run g = if g.run == run then option_map (λ came. record {
  metric = g.metric;
  ordinal = g.ordinal;
  moment = g.moment;
  came = came;
}) g.came else None

-- it is of another run, or nothing came of it yet
abbrev pub is_left : ℕ → Taking → Bool
is_left run g = is_none (taken_of run g)

-- what came of it, or the measurement as it is
abbrev pub IsPart : ℕ → Taking → TakeResult → Type 0
IsPart run g (part.There t) = taken_of run g ≡ Some t
IsPart run g (part.Left left) = (taken_of run g ≡ None) × (left ≡ g)
