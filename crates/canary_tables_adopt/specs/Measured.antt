-- Measurements of a service, read of rows and counted one after another.
use Rattle.std.specs.Prelude.{◌≡◌, ◌≤◌, ◌+◌, ℕ, List, [], ◌∷◌, length, map, take, drop, Some, IfSome}
use Rattle.canary_metric.specs.Metrics.{MetricValue}
use Rattle.canary_metric.specs.Counts.{Counts}
use Rattle.canary_release.specs.declared.effect.Recorded.{Recorded}
use Rattle.canary_once.specs.declared.record.RunRecord.{RunRecord}
use Rattle.canary_tables_rows.specs.declared.rows.MeasurementRow.{MeasurementRow}
use Rattle.canary_tables_rows.specs.Tables.{Tables}
use Rattle.canary_tables_contents.specs.Values.{measurement_of_row}
use Rattle.canary_tables_contents.specs.Counting.{IsNext, none_counted, counted_at}
use Rattle.canary_tables_contents.specs.Services.{metrics_of_runs}
use Rattle.canary_tables_read.specs.Chosen.{measurements_of}
use Rattle.canary_tables_read.specs.Places.{IsMark}
use Rattle.canary_tables_schema.specs.Stores.{IsUsable, Stores}
use Rattle.sqlite.specs.State.{State}
use Rattle.canary_tables_adopt.specs.declared.one_service.measured.SoFar.{SoFar}

-- each of these rows is read as a measurement that may come next, and they lead from the first
-- counts to the last
abbrev pub AreCountedTo : List (List MetricValue) → List (List Counts) → List MeasurementRow
    → List (List Counts) → Type 0
AreCountedTo runs first [] last = first ≡ last
AreCountedTo runs first (row ∷ rows) last =
    (x : Recorded) × (measurement_of_row row ≡ Some x) × IsNext runs first x
    × AreCountedTo runs (counted_at x first) rows last

-- the service's measurements come one after another, and to the tallies of the runs
abbrev pub AreMeasured : List ℕ → List RunRecord → Tables → Type 0
AreMeasured name runs t =
    AreCountedTo (metrics_of_runs runs) (none_counted (metrics_of_runs runs))
    (measurements_of name t) (map (λ (r : RunRecord). r.tallies) runs)

-- the service's first measurements are counted so far
pub record IsSoFar (name : List ℕ) (runs : List RunRecord) (t : Tables)
    (so_far : SoFar) : Type 0 where
  pub within : so_far.count ≤ length (measurements_of name t)
  pub counted : AreCountedTo (metrics_of_runs runs) (none_counted (metrics_of_runs runs))
      (take so_far.count (measurements_of name t)) so_far.counts

-- the next measurements, so many at most
abbrev pub page_after : List ℕ → ℕ → ℕ → Tables → List MeasurementRow
page_after name most count t = take most (drop count (measurements_of name t))

-- and those are counted too
pub record IsPageCounted (name : List ℕ) (runs : List RunRecord) (most : ℕ) (before : SoFar)
    (t : Tables) (after : SoFar) : Type 0 where
  pub counted : AreCountedTo (metrics_of_runs runs) before.counts
      (page_after name most before.count t) after.counts
  pub count : after.count ≡ before.count + length (page_after name most before.count t)

-- up to the place that is known stand just those that are counted
abbrev pub IsNoted : State → List ℕ → SoFar → Type 0
IsNoted s name so_far =
    IsUsable s → (t : Tables) → Stores s t → IfSome so_far.place (IsMark s.now name so_far.count)
