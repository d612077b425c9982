-- How a book in memory keeps the past of a service: all measurements once, and no lists of runs,
-- which are read off from them.
use Rattle.std.specs.Prelude.{◌≡◌, ℕ, zero, suc, ◌-◌, ◌≤◌, List, [], ◌∷◌, ◌++◌, length, map, filter, find, slice_get, Option, Some, None, option_map}
use Rattle.std.specs.List.{AllByRecursion}
use Rattle.canary_metric.specs.Counts.{Counts}
use Rattle.canary_plan.specs.declared.line.Line.{Line}
use Rattle.canary_release.specs.declared.effect.Opening.{Opening}
use Rattle.canary_release.specs.declared.effect.Recorded.{Recorded}
use Rattle.canary_release.specs.declared.effect.Closing.{Closing}
use Rattle.canary_release.specs.declared.effect.Effect.{Effect}
use Rattle.canary_release.specs.declared.effect.Effect.TheVariants.{LineAdded, RunOpened, MeasurementRecorded, RunClosed}
use Rattle.canary_release.specs.declared.runs.OpenRun.{OpenRun}
use Rattle.canary_release.specs.Pasts.{Run, Past, change_at, counts_of}
use Rattle.canary_release.specs.Evolutions.{has_number}
use Rattle.canary_release.specs.Order.{AreNumbered, is_of}
use Rattle.canary_once.specs.declared.kept_run.ClosedRun.{ClosedRun}
use Rattle.canary_once.specs.declared.kept_run.KeptRun.{KeptRun}
use Rattle.canary_once.specs.declared.record.RunRecord.{RunRecord}

pub record Kept : Type 0 where
  pub runs : List KeptRun
  pub measurements : List Recorded  -- those of all runs, in the order in which they were recorded
  pub history : List Line

abbrev pub nothing_kept : Kept
nothing_kept = record { runs = []; measurements = []; history = [] }

-- The past that is kept.

-- of all measurements, the lists of so many metrics of a run, from this metric on
abbrev pub lists_from : List Recorded → ℕ → ℕ → ℕ → List (List Recorded)
lists_from all run metric zero = []
lists_from all run metric (suc n) =
    filter (is_of run metric) all ∷ lists_from all run (suc metric) n

-- the lists of a run
abbrev pub lists_of : List Recorded → Opening → List (List Recorded)
lists_of all x = lists_from all x.run 0 (length x.analysis.metrics)

abbrev pub closing_of : Option ClosedRun → Option Closing
closing_of None = None
closing_of (Some c) = Some c.closing

abbrev pub run_in : List Recorded → KeptRun → Run
run_in all r =
    record {
      number = r.opening.run;
      step = r.opening.step;
      analysis = r.opening.analysis;
      started = r.opening.started;
      closed = closing_of r.closed;
      lists = lists_of all r.opening;
    }

abbrev pub past_kept : Kept → Past
past_kept k =
    record {
      runs = map (run_in k.measurements) k.runs;
      measurements = k.measurements;
      history = k.history;
    }

-- What is kept grows.

abbrev pub new_run : Opening → KeptRun
new_run x = record { opening = x; closed = None }

abbrev pub closed_by : ClosedRun → KeptRun → KeptRun
closed_by c r = record r { closed = Some c }

-- the runs with one closed: its number, from 1 on, says its place
abbrev pub close_in : ClosedRun → List KeptRun → List KeptRun
close_in c runs = change_at (c.closing.run - 1) (closed_by c) runs

-- one thing more is kept
abbrev pub keeps : Kept → Effect → Kept
keeps k (LineAdded line) = record k { history = k.history ++ line ∷ [] }
keeps k (RunOpened x) = record k { runs = k.runs ++ new_run x ∷ [] }
keeps k (MeasurementRecorded x) = record k { measurements = k.measurements ++ x ∷ [] }
keeps k (RunClosed x tallies) =
    record k { runs = close_in (record { closing = x; tallies = tallies }) k.runs }

-- all that happens, in order
abbrev pub keeps_all : Kept → List Effect → Kept
keeps_all k [] = k
keeps_all k (x ∷ xs) = keeps_all (keeps k x) xs

-- What holds of it.

-- the tallies of a closed run are the counts of its lists
abbrev pub IsLast : Option ClosedRun → List Counts → Type 0
IsLast None tallies = Unit {0}
IsLast (Some c) tallies = c.tallies ≡ tallies

abbrev pub HasLast : List Recorded → KeptRun → Type 0
HasLast all r = IsLast r.closed (map counts_of (lists_of all r.opening))

abbrev pub IsWithin : ℕ → Recorded → Type 0
IsWithin count x = x.run ≤ count

-- its runs are numbered from 1, no measurement has a number above theirs, and each closed run has
-- its last tallies
pub record AreKept (k : Kept) : Type 0 where
  pub numbered : AreNumbered 1 (past_kept k).runs
  pub within : AllByRecursion (IsWithin (length k.runs)) k.measurements
  pub last : AllByRecursion (HasLast k.measurements) k.runs

-- What is reported of a run.

-- the run of that number, which stands at the number less 1
abbrev pub kept_numbered : List KeptRun → ℕ → Option KeptRun
kept_numbered runs zero = None
kept_numbered runs (suc place) = slice_get runs place

-- the tallies of a run: its last ones if it is closed, else those of the open run of its number
abbrev pub tallies_in : Option ClosedRun → ℕ → List OpenRun → Option (List Counts)
tallies_in None number open_runs =
    option_map (λ (r : OpenRun). r.tallies) (find (has_number number) open_runs)
tallies_in (Some c) number open_runs = Some c.tallies

abbrev pub record_with : KeptRun → List Counts → RunRecord
record_with r tallies =
    record {
      number = r.opening.run;
      step = r.opening.step;
      analysis = r.opening.analysis;
      started = r.opening.started;
      closed = closing_of r.closed;
      tallies = tallies;
    }

abbrev pub record_among : Option KeptRun → List OpenRun → Option RunRecord
record_among None open_runs = None
record_among (Some r) open_runs =
    option_map (record_with r) (tallies_in r.closed r.opening.run open_runs)
