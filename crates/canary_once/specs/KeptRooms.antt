-- Room for what effects add to what is kept of a service.
use Rattle.std.specs.Prelude.{◌+◌, ◌≤◌, Bool, true, false, List, length, filter, vec_len, vec_capacity}
use Rattle.canary_release.specs.declared.effect.Effect.{Effect}
use Rattle.canary_release.specs.declared.effect.Effect.TheVariants.{LineAdded, RunOpened, MeasurementRecorded, RunClosed}
use Rattle.canary_once.specs.declared.kept_past.KeptPast.{KeptPast}
use Rattle.canary_once.specs.Kept.{Kept}

abbrev pub kept_in : KeptPast → Kept
kept_in p =
    record { runs = p.runs.items; measurements = p.measurements.items; history = p.history.items }

-- it adds a run, a measurement or a line

abbrev pub is_opening : Effect → Bool
is_opening (RunOpened x) = true
is_opening (LineAdded line) = false
is_opening (MeasurementRecorded x) = false
is_opening (RunClosed x tallies) = false

abbrev pub is_measurement : Effect → Bool
is_measurement (MeasurementRecorded x) = true
is_measurement (LineAdded line) = false
is_measurement (RunOpened x) = false
is_measurement (RunClosed x tallies) = false

abbrev pub is_line : Effect → Bool
is_line (LineAdded line) = true
is_line (RunOpened x) = false
is_line (MeasurementRecorded x) = false
is_line (RunClosed x tallies) = false

-- there is room for all that effects add
pub record HasRoom (p : KeptPast) (xs : List Effect) : Type 0 where
  pub runs : vec_len p.runs + length (filter is_opening xs) ≤ vec_capacity p.runs
  pub measurements : vec_len p.measurements + length (filter is_measurement xs)
      ≤ vec_capacity p.measurements
  pub history : vec_len p.history + length (filter is_line xs) ≤ vec_capacity p.history
