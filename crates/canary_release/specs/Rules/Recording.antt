-- Room for what is recorded: no tally has more than 1,000,000 measurements.
use Rattle.std.specs.Prelude.{◌==◌, nat_lt, ◌&&◌, ◌||◌, not, Bool, true, List, [], ◌∷◌, slice_get, Option, Some, None}
use Rattle.std.specs.List.{list_all}
use Rattle.canary_metric.specs.Counts.{Counts, size}
use Rattle.canary_metric.specs.Measurements.{is_measured}
use Rattle.canary_release.specs.declared.effect.Recorded.{Recorded}
use Rattle.canary_release.specs.declared.effect.Effect.TheVariants.{MeasurementRecorded}
use Rattle.canary_release.specs.declared.runs.OpenRun.{OpenRun}
use Rattle.canary_release.specs.declared.runs.Runs.{Runs}
use Rattle.canary_release.specs.Watching.{effect_applied}

-- a tally, if it is there, takes one more measurement
abbrev pub is_not_full : Option Counts → Bool
is_not_full None = true
is_not_full (Some c) = nat_lt (size c) 1000000

-- the tally of a measurement takes it, if it is of that run
abbrev pub takes : Recorded → OpenRun → Bool
takes x r = not (r.number == x.run) || is_not_full (slice_get r.tallies x.metric)

-- it has the phase of a measurement, and each open run takes it
abbrev pub has_room : Runs → Recorded → Bool
has_room w x = is_measured x.phase && list_all (takes x) w.open_runs

-- each in turn, after those before it
abbrev pub have_room : Runs → List Recorded → Bool
have_room w [] = true
have_room w (x ∷ xs) = has_room w x && have_room (effect_applied w (MeasurementRecorded x)) xs
