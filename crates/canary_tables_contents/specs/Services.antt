-- What is judged of services and of all that is theirs, key by key.
use Rattle.std.specs.Prelude.{◌≡◌, ◌↔◌, ℕ, suc, ◌+◌, Bool, true, false, List, [], ◌∷◌, length, map, filter, Option, Some, None, slice_get, is_none}
use Rattle.std.specs.List.{AllByRecursion, sum_by, zip}
use Rattle.std.specs.FinMap.{get}
use Rattle.canary_condition.specs.declared.outcome.Phase.TheVariants.{Running}
use Rattle.canary_metric.specs.Metrics.{MetricValue}
use Rattle.canary_metric.specs.MetricPhases.{is_completed}
use Rattle.canary_metric.specs.Counts.{Counts}
use Rattle.canary_metric.specs.Verdicts.{verdict_of_counts}
use Rattle.canary_plan.specs.declared.service.ServiceSpec.{ServiceSpec}
use Rattle.canary_plan.specs.declared.strategy.CheckedStrategy.{CheckedStrategy}
use Rattle.canary_plan.specs.declared.command.Command.TheVariants as command
use Rattle.canary_plan.specs.declared.line.Line.{Line}
use Rattle.canary_plan.specs.Plans.{strategy_of, bound_of, analysis_at, all_revisions, distinct}
use Rattle.canary_plan.specs.PlanRefusals.{strategy_refusal}
use Rattle.canary_canonical.specs.Readings.{canonical_in}
use Rattle.canary_release.specs.declared.effect.Recorded.{Recorded}
use Rattle.canary_release.specs.declared.effect.Closing.{Closing}
use Rattle.canary_release.specs.declared.runs.OpenRun.{OpenRun}
use Rattle.canary_release.specs.declared.state.ServiceState.{ServiceState}
use Rattle.canary_release.specs.Desks.{ModelService, newest}
use Rattle.canary_release.specs.Order.{IsInOrder}
use Rattle.canary_release.specs.Parts.{is_broken}
use Rattle.canary_once.specs.declared.record.RunRecord.{RunRecord}
use Rattle.canary_once.specs.Records.{past_of}
use Rattle.canary_once.specs.Sound.{AreSoundContents}
use Rattle.canary_tables_rows.specs.declared.rows.RunRow.{RunRow}
use Rattle.canary_tables_rows.specs.declared.rows.ServiceRow.{ServiceRow}
use Rattle.canary_tables_rows.specs.Tables.{Tables, is_service, is_binding, is_binding_of, is_run, is_tally, is_tally_of, is_measurement_of, is_line_of}
use Rattle.canary_tables_contents.specs.Values.{service_row, ending_of, tally_row, measurement_row, history_row, made_from, stand_of, measurement_of_row}
use Rattle.canary_tables_contents.specs.Tables.{row_if, binding_rows, run_rows, tally_rows, IsReadableCommand, IsReadableClosing, IsReadableLine, IsReadablePast}
use Rattle.canary_tables_contents.specs.Reading.{known_in, contents_of}
use Rattle.canary_tables_contents.specs.Finding.{AreRead}
use Rattle.canary_tables_contents.specs.Soundness.{AreSoundTables}
use Rattle.canary_tables_contents.specs.Judged.{AreCallersJudged, AreTemplatesJudged, HoldCallers, HoldTemplates}
use Rattle.canary_tables_contents.specs.Counting.{none_counted, counted_all, AreCounted}

-- By key.

-- a run is closed exactly if the verdict of its tallies isn't Running
abbrev pub HasVerdictBy : List MetricValue → List Counts → Option Closing → Type 0
HasVerdictBy metrics tallies None = verdict_of_counts false (zip metrics tallies) ≡ Running
HasVerdictBy metrics tallies (Some x) =
    (x.verdict ≡ verdict_of_counts x.outside (zip metrics tallies))
    × (is_completed x.verdict ≡ true)

abbrev pub row_of_record : List ℕ → RunRecord → RunRow
row_of_record name r =
    record {
      service = name;
      number = r.number;
      step = r.step;
      started = r.started;
      ending = ending_of r.closed;
    }

-- a run of a service with this strategy: no other has its number; its rows of binding bind the
-- strategy's analysis at its step, and there are no others of it; its tallies have a row each and
-- it has no others; and its verdict is theirs
pub record IsRunJudged (t : Tables) (strategy : CheckedStrategy) (name : List ℕ)
    (r : RunRecord) : Type 0 where
  pub one : filter (is_run name r.number) t.runs ≡ row_of_record name r ∷ []
  pub closed : IsReadableClosing r.number r.closed
  pub analysis : analysis_at (bound_of (known_in t name r.number) strategy) r.step
      ≡ Some r.analysis
  pub bindings : length (filter (is_binding_of name r.number) t.bindings)
      ≡ length (distinct r.analysis.revisions)
  pub tallies : (place : ℕ) (c : Counts) → slice_get r.tallies place ≡ Some c
      → filter (is_tally name r.number place) t.tallies ≡ tally_row name r.number place c ∷ []
  pub no_more : length (filter (is_tally_of name r.number) t.tallies) ≡ length r.tallies
  pub verdict : HasVerdictBy r.analysis.metrics r.tallies r.closed

abbrev pub is_open_record : RunRecord → Bool
is_open_record r = is_none r.closed

abbrev pub open_of_record : RunRecord → OpenRun
open_of_record r =
    record {
      number = r.number;
      step = r.step;
      analysis = r.analysis;
      started = r.started;
      tallies = r.tallies;
    }

abbrev pub open_runs_in : List RunRecord → List OpenRun
open_runs_in runs = map open_of_record (filter is_open_record runs)

-- the metrics of each run, by its own analysis
abbrev pub metrics_of_runs : List RunRecord → List (List MetricValue)
metrics_of_runs runs = map (λ (r : RunRecord). r.analysis.metrics) runs

-- a service's row: no other has its name; its command is accepted by the newest templates; it is
-- bound by its rows of binding of run 0, and there are no others of it; its runs are numbered from
-- 1 on, its measurements come to their tallies, its lines are read, and its parts are accepted
pub record IsServiceJudged (t : Tables) (row : ServiceRow) : Type 0 where
  pub one : filter (is_service row.name) t.services ≡ row ∷ []
  pub made : ServiceSpec
  pub is : made_from (canonical_in row.spec) ≡ Some made
  pub named : made.name ≡ row.name
  pub accepted : strategy_refusal (newest (contents_of t).desk.templates) made ≡ None
  pub service : ServiceState
  pub stands : stand_of row.name (strategy_of made)
      (bound_of (known_in t row.name 0) (strategy_of made)) row.standing ≡ Some service
  pub bindings : length (filter (is_binding_of row.name 0) t.bindings)
      ≡ length (distinct (all_revisions service.bound))
  pub runs : List RunRecord
  pub as_many : length runs ≡ row.standing.runs
  pub each : (place : ℕ) (r : RunRecord) → slice_get runs place ≡ Some r
      → (r.number ≡ suc place) × IsRunJudged t (strategy_of made) row.name r
  pub measurements : List Recorded
  pub read : AreRead measurement_of_row
      (filter (is_measurement_of row.name) t.measurements) measurements
  pub counted : AreCounted (metrics_of_runs runs) (none_counted (metrics_of_runs runs))
      measurements
  pub tallied : map (λ (r : RunRecord). r.tallies) runs
      ≡ counted_all (none_counted (metrics_of_runs runs)) measurements
  pub history : List Line
  pub told : filter (is_line_of row.name) t.history ≡ map (history_row row.name) history
  pub lines : AllByRecursion IsReadableLine history
  pub parts : is_broken
      (record {
        service = service;
        runs = record { count = length runs; open_runs = open_runs_in runs };
      })
      ≡ false

-- and no table has other rows
pub record AreServicesJudged (t : Tables) : Type 0 where
  pub each : AllByRecursion (IsServiceJudged t) t.services
  pub runs : sum_by (λ (row : ServiceRow). row.standing.runs) t.services ≡ length t.runs
  pub bindings : sum_by
      (λ (row : ServiceRow). length (filter (is_binding_of row.name 0) t.bindings)) t.services
      + sum_by
      (λ (row : RunRow). length (filter (is_binding_of row.service row.number) t.bindings)) t.runs
      ≡ length t.bindings
  pub tallies : sum_by
      (λ (row : RunRow). length (filter (is_tally_of row.service row.number) t.tallies)) t.runs
      ≡ length t.tallies
  pub measurements : sum_by
      (λ (row : ServiceRow). length (filter (is_measurement_of row.name) t.measurements)) t.services
      ≡ length t.measurements
  pub history : sum_by
      (λ (row : ServiceRow). length (filter (is_line_of row.name) t.history)) t.services
      ≡ length t.history

-- what is judged of tables
pub record IsJudged (t : Tables) : Type 0 where
  pub callers : AreCallersJudged t
  pub templates : AreTemplatesJudged t
  pub services : AreServicesJudged t

-- By contents.

-- what of sound tables is of services alone
pub record HoldServices (t : Tables) : Type 0 where
  pub services : (name : List ℕ)
      → filter (is_service name) t.services
      ≡ row_if (service_row name) (get (contents_of t).desk.services name)
  pub bindings : (name : List ℕ) (number : ℕ) (template : List ℕ)
      → filter (is_binding name number template) t.bindings
      ≡ binding_rows name number template (get (contents_of t).desk.services name)
  pub runs : (name : List ℕ) (number : ℕ)
      → filter (is_run name number) t.runs
      ≡ run_rows name number (past_of (contents_of t) name).runs
  pub tallies : (name : List ℕ) (number metric : ℕ)
      → filter (is_tally name number metric) t.tallies
      ≡ tally_rows name number metric (past_of (contents_of t) name).runs
  pub measurements : (name : List ℕ)
      → filter (is_measurement_of name) t.measurements
      ≡ map (measurement_row name) (past_of (contents_of t) name).measurements
  pub history : (name : List ℕ)
      → filter (is_line_of name) t.history
      ≡ map (history_row name) (past_of (contents_of t) name).history
  pub made : (name : List ℕ) (m : ModelService) → get (contents_of t).desk.services name ≡ Some m
      → IsReadableCommand (command.Service m.made)
  pub pasts : (name : List ℕ) → IsReadablePast (past_of (contents_of t) name)
  pub in_order : (name : List ℕ) (m : ModelService)
      → get (contents_of t).desk.services name ≡ Some m
      → IsInOrder (contents_of t).desk.templates name m
  pub sound : AreSoundContents (contents_of t)

-- sound tables, in three parts
pub record HoldParts (t : Tables) : Type 0 where
  pub callers : HoldCallers t
  pub templates : HoldTemplates t
  pub services : HoldServices t

abbrev pub PartsMakeThemSound : Type 0
PartsMakeThemSound = (t : Tables) → HoldParts t ↔ AreSoundTables t
