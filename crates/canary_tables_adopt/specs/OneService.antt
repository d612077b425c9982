-- What is found of services.
use Rattle.std.specs.Prelude.{◌≡◌, ℕ, ◌+◌, false, List, length, map, filter, Result, Err, IfOk}
use Rattle.std.specs.List.{AllByRecursion, sum_by}
use Rattle.sqlite.specs.State.{State}
use Rattle.canary_plan.specs.declared.bound.BoundParts.{BoundParts}
use Rattle.canary_plan.specs.declared.line.Line.{Line}
use Rattle.canary_plan.specs.Plans.{all_revisions, distinct}
use Rattle.canary_release.specs.declared.effect.Recorded.{Recorded}
use Rattle.canary_release.specs.declared.state.ServiceState.{ServiceState}
use Rattle.canary_release.specs.Parts.{is_broken}
use Rattle.canary_once.specs.declared.record.RunRecord.{RunRecord}
use Rattle.canary_tables_rows.specs.declared.rows.ServiceRow.{ServiceRow}
use Rattle.canary_tables_rows.specs.Limits.{AreWithin}
use Rattle.canary_tables_rows.specs.Tables.{Tables, is_measurement_of, is_line_of}
use Rattle.canary_tables_schema.specs.Stores.{IsUsable, Stores}
use Rattle.canary_tables_contents.specs.Judged.{AreTemplatesJudged}
use Rattle.canary_tables_contents.specs.Services.{IsServiceJudged, open_runs_in}
use Rattle.canary_tables_contents.specs.Totals.{tallies_under, bindings_to, bindings_under}
use Rattle.canary_tables_read.specs.declared.fault.ReadFault.{ReadFault}
use Rattle.canary_tables_read.specs.declared.fault.ReadFault.TheVariants.{Broken}
use Rattle.canary_tables_adopt.specs.declared.totals.Totals.{Totals}
use Rattle.canary_tables_adopt.specs.Alone.{IsNamed}
use Rattle.canary_tables_adopt.specs.OfService.{AreRunsOf, AreMeasurementsOf, IsHistoryOf}
use Rattle.canary_tables_contents.specs.Recounted.{AreTallied}

-- If templates are judged.

-- it finds such a value
abbrev pub FindsJudged : {A : Type 0} → (Tables → A → Type 0) → State → State → Result A ReadFault
    → Type 0
FindsJudged such old new result =
    IsUsable new → (t : Tables) → Stores old t → AreTemplatesJudged t → IfOk result (such t)

-- it reports that the tables are broken only if a program cannot hold a row of theirs, or this is
-- not so of them
abbrev pub RefusesJudged : {A : Type 0} → (Tables → Type 0) → State → State → Result A ReadFault
    → Type 0
RefusesJudged P old new result =
    IsUsable new → (t : Tables) → Stores old t → AreTemplatesJudged t → result ≡ Err Broken
    → AreWithin t → ¬ P t

-- One service.

-- what is past of a service that stands so
pub record IsPastJudged (t : Tables) (row : ServiceRow) (service : ServiceState) : Type 0 where
  pub runs : List RunRecord
  pub are : AreRunsOf service.strategy row.name row.standing.runs t runs
  pub measurements : List Recorded
  pub read : AreMeasurementsOf row.name t measurements
  pub tallied : AreTallied runs measurements
  pub history : List Line
  pub told : IsHistoryOf row.name t history
  pub parts : is_broken
      (record {
        service = service;
        runs = record { count = row.standing.runs; open_runs = open_runs_in runs };
      })
      ≡ false

abbrev pub measurements_under : Tables → ServiceRow → ℕ
measurements_under t row = length (filter (is_measurement_of row.name) t.measurements)

abbrev pub lines_under : Tables → ServiceRow → ℕ
lines_under t row = length (filter (is_line_of row.name) t.history)

-- how much it has, whose present attempt is bound so
abbrev pub totals_bound : Tables → ServiceRow → BoundParts → Totals
totals_bound t row bound =
    record {
      runs = row.standing.runs;
      bindings = length (distinct (all_revisions bound))
          + bindings_to t.bindings row.name row.standing.runs;
      tallies = tallies_under t row;
      measurements = measurements_under t row;
      lines = lines_under t row;
    }

-- how much it has
abbrev pub totals_of : Tables → ServiceRow → Totals
totals_of t row =
    record {
      runs = row.standing.runs;
      bindings = bindings_under t row;
      tallies = tallies_under t row;
      measurements = measurements_under t row;
      lines = lines_under t row;
    }

abbrev pub IsServiceUnder : Tables → List ℕ → Type 0
IsServiceUnder t = IsNamed (λ (row : ServiceRow). row.name) (IsServiceJudged t)

-- the service of that name is as it is to be, and has so much
abbrev pub IsServiceFound : List ℕ → Tables → Totals → Type 0
IsServiceFound name t totals =
    IsNamed (λ (row : ServiceRow). row.name)
    (λ row. IsServiceJudged t row × (totals ≡ totals_of t row)) name

-- All services.

pub record AreTotalsOf (t : Tables) (rows : List ServiceRow) (totals : Totals) : Type 0 where
  pub runs : totals.runs ≡ sum_by (λ (row : ServiceRow). row.standing.runs) rows
  pub bindings : totals.bindings ≡ sum_by (bindings_under t) rows
  pub tallies : totals.tallies ≡ sum_by (tallies_under t) rows
  pub measurements : totals.measurements ≡ sum_by (measurements_under t) rows
  pub lines : totals.lines ≡ sum_by (lines_under t) rows

-- the services of these names are as they are to be, and have so much
pub record AreServicesFound (names : List (List ℕ)) (t : Tables) (totals : Totals) : Type 0 where
  pub rows : List ServiceRow
  pub named : map (λ (row : ServiceRow). row.name) rows ≡ names
  pub each : AllByRecursion (IsServiceJudged t) rows
  pub are : AreTotalsOf t rows totals

-- the tables have just so much
pub record HaveTotals (t : Tables) (totals : Totals) : Type 0 where
  pub runs : totals.runs ≡ length t.runs
  pub bindings : totals.bindings ≡ length t.bindings
  pub tallies : totals.tallies ≡ length t.tallies
  pub measurements : totals.measurements ≡ length t.measurements
  pub lines : totals.lines ≡ length t.history
