-- What is judged of one service's runs, measurements and lines.
use Rattle.std.specs.Prelude.{◌≡◌, ℕ, suc, List, [], ◌∷◌, length, map, filter, Option, Some, None, slice_get, Result, Ok, Err}
use Rattle.std.specs.List.{AllByRecursion}
use Rattle.canary_metric.specs.Counts.{Counts}
use Rattle.canary_plan.specs.declared.analysis_parts.AnalysisParts.{AnalysisParts}
use Rattle.canary_plan.specs.declared.strategy.CheckedStrategy.{CheckedStrategy}
use Rattle.canary_plan.specs.declared.line.Line.{Line}
use Rattle.canary_plan.specs.Lines.{words}
use Rattle.canary_release.specs.declared.effect.Recorded.{Recorded}
use Rattle.canary_once.specs.declared.record.RunRecord.{RunRecord}
use Rattle.canary_tables_rows.specs.declared.rows.RunRow.{RunRow}
use Rattle.canary_tables_rows.specs.declared.rows.TallyRow.{TallyRow}
use Rattle.canary_tables_rows.specs.Tables.{Tables, is_tally, is_tally_of, is_measurement_of, is_line_of}
use Rattle.canary_tables_contents.specs.Values.{tally_row, history_row, measurement_of_row}
use Rattle.canary_tables_contents.specs.Tables.{IsReadableLine}
use Rattle.canary_tables_contents.specs.Finding.{AreRead, record_of_row}
use Rattle.canary_tables_contents.specs.declared.fault.RowFault.{RowFault}
use Rattle.canary_tables_contents.specs.declared.fault.RowFault.TheVariants as row_fault
use Rattle.canary_tables_read.specs.declared.fault.ReadFault.{ReadFault}
use Rattle.canary_tables_read.specs.declared.fault.ReadFault.TheVariants.{Broken, Memory, Storage}
use Rattle.canary_tables_contents.specs.Services.{IsRunJudged}
use Rattle.canary_tables_contents.specs.Recounted.{HasOwnVerdict}

-- there is such a value in the tables
abbrev pub HasSuch : {A : Type 0} → (Tables → A → Type 0) → Tables → Type 0
HasSuch {A} such t = (value : A) × such t value

-- the value that there is, or it reports that there is none; out of memory at any point, and the
-- store is not asked
abbrev pub IsTold : {A : Type 0} → Option A → Result A ReadFault → Type 0
IsTold value (Ok found) = value ≡ Some found
IsTold value (Err Broken) = value ≡ None
IsTold value (Err Memory) = Unit {0}
IsTold value (Err Storage) = ⊥

-- what a row that is not read shows of the tables
abbrev pub read_fault : RowFault → ReadFault
read_fault row_fault.Broken = Broken
read_fault row_fault.Memory = Memory

-- Runs.

-- each row stands at the place of its metric, the first of them at this one
abbrev pub ArePlaced : ℕ → List TallyRow → Type 0
ArePlaced place [] = Unit {0}
ArePlaced place (row ∷ rows) = (row.metric ≡ place) × ArePlaced (suc place) rows

-- the tallies of the run of that number, by the places of its metrics
pub record AreTalliesOf (name : List ℕ) (number : ℕ) (t : Tables)
    (tallies : List Counts) : Type 0 where
  pub each : (place : ℕ) (c : Counts) → slice_get tallies place ≡ Some c
      → filter (is_tally name number place) t.tallies ≡ tally_row name number place c ∷ []
  pub no_more : length (filter (is_tally_of name number) t.tallies) ≡ length tallies

-- what the row of that run makes of its tallies and an analysis
pub record IsRunBy (name : List ℕ) (number : ℕ) (row : RunRow) (analysis : AnalysisParts)
    (t : Tables) (run : RunRecord) : Type 0 where
  pub tallies : List Counts
  pub are : AreTalliesOf name number t tallies
  pub told : record_of_row analysis tallies row ≡ Some run
  pub verdict : HasOwnVerdict run

-- the run of that number, of a service with this strategy
abbrev pub IsRunOf : CheckedStrategy → List ℕ → ℕ → Tables → RunRecord → Type 0
IsRunOf strategy name number t r = (r.number ≡ number) × IsRunJudged t strategy name r

-- the runs 1 to that number
pub record AreRunsOf (strategy : CheckedStrategy) (name : List ℕ) (count : ℕ) (t : Tables)
    (runs : List RunRecord) : Type 0 where
  pub as_many : length runs ≡ count
  pub each : (place : ℕ) (r : RunRecord) → slice_get runs place ≡ Some r
      → IsRunOf strategy name (suc place) t r

-- Measurements and lines.

-- each row of its measurements is read
abbrev pub AreMeasurementsOf : List ℕ → Tables → List Recorded → Type 0
AreMeasurementsOf name t measurements =
    AreRead measurement_of_row (filter (is_measurement_of name) t.measurements) measurements

abbrev pub line_words : Line → List ℕ
line_words line = words line.event

-- each row of its history is a line's, which is read back
pub record IsHistoryOf (name : List ℕ) (t : Tables) (history : List Line) : Type 0 where
  pub told : filter (is_line_of name) t.history ≡ map (history_row name) history
  pub lines : AllByRecursion IsReadableLine history
