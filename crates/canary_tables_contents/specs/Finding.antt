-- What a store finds in the tables of the contents that they hold.
use Rattle.std.specs.Prelude.{◌≡◌, ℕ, List, [], map, Option, Some, None, option_map, option_and_then, unwrap_or}
use Rattle.std.specs.List.{filter_map}
use Rattle.canary_metric.specs.Counts.{Counts}
use Rattle.canary_plan.specs.declared.service.ServiceSpec.{ServiceSpec}
use Rattle.canary_plan.specs.declared.analysis_parts.AnalysisParts.{AnalysisParts}
use Rattle.canary_plan.specs.declared.bound.BoundParts.{BoundParts}
use Rattle.canary_plan.specs.declared.strategy.CheckedStrategy.{CheckedStrategy}
use Rattle.canary_plan.specs.Plans.{Templates, strategy_of, bound_of, analysis_or_none}
use Rattle.canary_canonical.specs.Readings.{canonical_in}
use Rattle.canary_release.specs.declared.effect.Closing.{Closing}
use Rattle.canary_release.specs.declared.runs.OpenRun.{OpenRun}
use Rattle.canary_release.specs.declared.service.ServiceParts.{ServiceParts}
use Rattle.canary_release.specs.declared.state.ServiceState.{ServiceState}
use Rattle.canary_release.specs.Pasts.{tracked}
use Rattle.canary_once.specs.declared.record.RunRecord.{RunRecord}
use Rattle.canary_once.specs.Contents.{Contents}
use Rattle.canary_once.specs.Records.{past_of, run_of}
use Rattle.canary_tables_rows.specs.declared.rows.CallerRow.{CallerRow}
use Rattle.canary_tables_rows.specs.declared.rows.RunRow.{RunRow}
use Rattle.canary_tables_rows.specs.declared.rows.ServiceRow.{ServiceRow}
use Rattle.canary_tables_rows.specs.Tables.{Tables}
use Rattle.canary_tables_contents.specs.Values.{made_from, stand_of, closing_of}
use Rattle.canary_tables_contents.specs.Reading.{known_in}

-- the row that is there is read, as what is sought
pub record IsFound {R A : Type 0} (reads : R → Option A) (row : Option R)
    (sought : Option A) : Type 0 where
  pub value : option_and_then reads row ≡ sought
  pub read : option_map reads row ≡ option_map Some sought

-- each row is read, and none is passed over
pub record AreRead {R A : Type 0} (reads : R → Option A) (rows : List R)
    (sought : List A) : Type 0 where
  pub values : filter_map reads rows ≡ sought
  pub each : map reads rows ≡ map Some sought

-- how many requests of a caller are settled, by its row
abbrev pub settled_by : Option CallerRow → ℕ
settled_by row = unwrap_or (option_map (λ (r : CallerRow). r.settled) row) 0

-- Runs.

abbrev pub tallies_told : Option RunRecord → List Counts
tallies_told None = []
tallies_told (Some r) = r.tallies

-- the tallies of a run; none if there is no such run
abbrev pub tallies_of : Contents → List ℕ → ℕ → List Counts
tallies_of c name number = tallies_told (run_of c name number)

-- the strategy of a service, by its row
abbrev pub strategy_by : Option ServiceRow → Option CheckedStrategy
strategy_by row =
    option_map strategy_of
    (option_and_then (λ (r : ServiceRow). made_from (canonical_in r.spec)) row)

-- the analysis of a run of a service with this strategy: that at its step, bound to the run's own
-- revisions
abbrev pub analysis_by : Tables → CheckedStrategy → RunRow → AnalysisParts
analysis_by t strategy row =
    analysis_or_none (bound_of (known_in t row.service row.number) strategy) row.step

abbrev pub record_closed : RunRow → AnalysisParts → List Counts → Option Closing → RunRecord
record_closed row analysis tallies closed =
    record {
      number = row.number;
      step = row.step;
      analysis = analysis;
      started = row.started;
      closed = closed;
      tallies = tallies;
    }

-- a run, by its row, its analysis and its tallies
abbrev pub record_of_row : AnalysisParts → List Counts → RunRow → Option RunRecord
record_of_row analysis tallies row =
    option_map (record_closed row analysis tallies) (closing_of row.number row.ending)

-- an open run, by its row, of the analysis that is bound at its step
abbrev pub open_run_of : BoundParts → Contents → List ℕ → RunRow → OpenRun
open_run_of bound c name row =
    record {
      number = row.number;
      step = row.step;
      analysis = analysis_or_none bound row.step;
      started = row.started;
      tallies = tallies_of c name row.number;
    }

abbrev pub with_analysis : BoundParts → OpenRun → OpenRun
with_analysis bound r = record r { analysis = analysis_or_none bound r.step }

-- the open runs of a service, each of the analysis that is bound at its step
abbrev pub open_runs_by : Contents → List ℕ → BoundParts → List OpenRun
open_runs_by c name bound =
    map (with_analysis bound) (tracked (past_of c name)).open_runs

-- Services.

abbrev pub parts_standing : ServiceRow → List OpenRun → ServiceState → ServiceParts
parts_standing row open_runs service =
    record { service = service; runs = record { count = row.standing.runs; open_runs = open_runs } }

abbrev pub parts_made : Templates → (BoundParts → List OpenRun) → ServiceRow → ServiceSpec
    → Option ServiceParts
parts_made known open_runs row made =
    let strategy = strategy_of made in let bound = bound_of known strategy in
    option_map (parts_standing row (open_runs bound))
    (stand_of row.name strategy bound row.standing)

-- what is kept of a service, by its row, the templates, and its open runs by what it is bound to
abbrev pub parts_of_row : Templates → (BoundParts → List OpenRun) → ServiceRow
    → Option ServiceParts
parts_of_row known open_runs row =
    option_and_then (parts_made known open_runs row) (made_from (canonical_in row.spec))
