-- What one statement changes of the tables.
use Rattle.std.specs.Prelude.{◌≡◌, ◌+◌, ◌≤◌, ℕ, zero, suc, Bool, if◌then◌else◌, List, [], ◌∷◌, ◌++◌, map, filter}
use Rattle.canary_condition.specs.declared.outcome.Phase.{Phase}
use Rattle.canary_metric.specs.Counts.{Counts, counts, size, with_one_more}
use Rattle.canary_tables_rows.specs.declared.rows.CallerRow.{CallerRow}
use Rattle.canary_tables_rows.specs.declared.rows.KeptRow.{KeptRow}
use Rattle.canary_tables_rows.specs.declared.rows.RevisionRow.{RevisionRow}
use Rattle.canary_tables_rows.specs.declared.rows.BindingRow.{BindingRow}
use Rattle.canary_tables_rows.specs.declared.rows.ServiceColumns.{ServiceColumns}
use Rattle.canary_tables_rows.specs.declared.rows.ServiceRow.{ServiceRow}
use Rattle.canary_tables_rows.specs.declared.rows.ClosingColumns.{ClosingColumns}
use Rattle.canary_tables_rows.specs.declared.rows.RunRow.{RunRow}
use Rattle.canary_tables_rows.specs.declared.rows.TallyRow.{TallyRow}
use Rattle.canary_tables_rows.specs.declared.rows.MeasurementRow.{MeasurementRow}
use Rattle.canary_tables_rows.specs.declared.rows.HistoryRow.{HistoryRow}
use Rattle.canary_tables_rows.specs.Tables.{Tables, is_caller, is_service, is_binding, is_run, is_tally}

-- INSERT: one row more, after the others

abbrev pub with_caller : CallerRow → Tables → Tables
with_caller row t = record t { callers = t.callers ++ row ∷ [] }

abbrev pub with_kept : KeptRow → Tables → Tables
with_kept row t = record t { kept = t.kept ++ row ∷ [] }

abbrev pub with_revision : RevisionRow → Tables → Tables
with_revision row t = record t { revisions = t.revisions ++ row ∷ [] }

abbrev pub with_service : ServiceRow → Tables → Tables
with_service row t = record t { services = t.services ++ row ∷ [] }

abbrev pub with_binding : BindingRow → Tables → Tables
with_binding row t = record t { bindings = t.bindings ++ row ∷ [] }

abbrev pub with_run : RunRow → Tables → Tables
with_run row t = record t { runs = t.runs ++ row ∷ [] }

abbrev pub with_tally : TallyRow → Tables → Tables
with_tally row t = record t { tallies = t.tallies ++ row ∷ [] }

abbrev pub with_measurement : MeasurementRow → Tables → Tables
with_measurement row t = record t { measurements = t.measurements ++ row ∷ [] }

abbrev pub with_line : HistoryRow → Tables → Tables
with_line row t = record t { history = t.history ++ row ∷ [] }

-- a tally of no measurements for each of so many metrics of a run, from this one on
abbrev pub tallies_opened : List ℕ → ℕ → ℕ → ℕ → Tables → Tables
tallies_opened service run metric zero t = t
tallies_opened service run metric (suc n) t =
    tallies_opened service run (suc metric) n
    (with_tally
    (record { service = service; run = run; metric = metric; counts = counts [] }) t)

-- UPDATE: the rows that pass a test are changed

abbrev pub change_where : {R : Type 0} → (R → Bool) → (R → R) → List R → List R
change_where test change = map (λ row. if test row then change row else row)

-- so many requests of a caller are settled
abbrev pub with_settled : List ℕ → ℕ → Tables → Tables
with_settled name settled t =
    record t {
      callers = change_where (is_caller name)
          (λ (row : CallerRow). record row { settled = settled }) t.callers;
    }

-- a service stands so
abbrev pub with_standing : List ℕ → ServiceColumns → Tables → Tables
with_standing name standing t =
    record t {
      services = change_where (is_service name)
          (λ (row : ServiceRow). record row { standing = standing }) t.services;
    }

-- a run of a service, or its present attempt, is bound to that revision of the template
abbrev pub with_bound : List ℕ → ℕ → List ℕ → ℕ → Tables → Tables
with_bound service run template revision t =
    record t {
      bindings = change_where (is_binding service run template)
          (λ (row : BindingRow). record row { revision = revision }) t.bindings;
    }

-- a run is closed
abbrev pub with_ending : List ℕ → ℕ → ClosingColumns → Tables → Tables
with_ending service number ending t =
    record t {
      runs = change_where (is_run service number)
          (λ (row : RunRow). record row { ending = ending }) t.runs;
    }

-- a metric of a run has one measurement more, of that phase, taken at that moment
abbrev pub with_counted : List ℕ → ℕ → ℕ → Phase → ℕ → Tables → Tables
with_counted service run metric phase taken t =
    record t {
      tallies = change_where (is_tally service run metric)
          (λ (row : TallyRow). record row { counts = with_one_more row.counts phase taken })
          t.tallies;
    }

-- What an UPDATE asks of the tables.

-- just one row passes the test
abbrev pub IsOne : {R : Type 0} → (R → Bool) → List R → Type 0
IsOne {R} test rows = (row : R) × (filter test rows ≡ row ∷ [])

abbrev pub HasCaller : List ℕ → Tables → Type 0
HasCaller name t = IsOne (is_caller name) t.callers

abbrev pub HasService : List ℕ → Tables → Type 0
HasService name t = IsOne (is_service name) t.services

abbrev pub HasBinding : List ℕ → ℕ → List ℕ → Tables → Type 0
HasBinding service run template t = IsOne (is_binding service run template) t.bindings

abbrev pub HasRun : List ℕ → ℕ → Tables → Type 0
HasRun service number t = IsOne (is_run service number) t.runs

-- no number of these is above 1,000,000
pub record AreFew (c : Counts) : Type 0 where
  pub counted : c.counted ≤ 1000000
  pub failed : c.failed ≤ 1000000
  pub inconclusive : c.inconclusive ≤ 1000000
  pub errors : c.errors ≤ 1000000
  pub consecutive : c.consecutive ≤ 1000000
  pub passes : c.passes ≤ 1000000

-- the tally is there, and its numbers have room for one more measurement
pub record HasTally (service : List ℕ) (run metric : ℕ) (t : Tables) : Type 0 where
  pub row : TallyRow
  pub one : filter (is_tally service run metric) t.tallies ≡ row ∷ []
  pub few : AreFew row.counts
  pub room : size row.counts + 1 ≤ 1000000
