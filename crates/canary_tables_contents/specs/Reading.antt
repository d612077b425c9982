-- The contents that tables hold, as a function of any tables: a row that stands for nothing is
-- passed over.
use Rattle.std.specs.Prelude.{ℕ, zero, suc, List, [], ◌∷◌, ◌++◌, length, filter, slice_get, Option, Some, None, option_and_then}
use Rattle.std.specs.List.{filter_map}
use Rattle.std.specs.Ordering.{nat_cmp}
use Rattle.std.specs.Cmp.Lexicographic.{slice_cmp}
use Rattle.std.specs.FinMap.{FinMap, insert, empty}
use Rattle.canary_plan.specs.declared.service.ServiceSpec.{ServiceSpec}
use Rattle.canary_plan.specs.declared.template.Template.{Template}
use Rattle.canary_plan.specs.declared.strategy.CheckedStrategy.{CheckedStrategy}
use Rattle.canary_plan.specs.declared.line.Line.{Line}
use Rattle.canary_plan.specs.Plans.{Templates, strategy_of, bound_of}
use Rattle.canary_canonical.specs.Readings.{canonical_in}
use Rattle.canary_release.specs.declared.effect.Recorded.{Recorded}
use Rattle.canary_release.specs.declared.state.ServiceState.{ServiceState}
use Rattle.canary_release.specs.Pasts.{Run, Past}
use Rattle.canary_release.specs.Desks.{ModelService, RevisionMap}
use Rattle.canary_once.specs.declared.book.Receipt.{Receipt}
use Rattle.canary_once.specs.Contents.{Contents, CallerMap, put_some}
use Rattle.canary_once.specs.Sound.{AreContents}
use Rattle.canary_tables_rows.specs.declared.rows.CallerRow.{CallerRow}
use Rattle.canary_tables_rows.specs.declared.rows.KeptRow.{KeptRow}
use Rattle.canary_tables_rows.specs.declared.rows.RevisionRow.{RevisionRow}
use Rattle.canary_tables_rows.specs.declared.rows.BindingRow.{BindingRow}
use Rattle.canary_tables_rows.specs.declared.rows.ServiceRow.{ServiceRow}
use Rattle.canary_tables_rows.specs.declared.rows.MeasurementRow.{MeasurementRow}
use Rattle.canary_tables_rows.specs.declared.rows.HistoryRow.{HistoryRow}
use Rattle.canary_tables_rows.specs.Tables.{Tables, is_kept, is_revision, is_revision_of, is_binding, is_run, is_measurement_of, is_line_of}
use Rattle.canary_tables_contents.specs.Values.{receipt_of_row, revision_of_row, made_from, stand_of, run_of_row, measurement_of_row, line_of_row}
use Rattle.canary_tables_contents.specs.Tables.{AreRows, IsReadable}

-- a caller's receipts under the numbers 1 to n
abbrev pub receipts_to : List KeptRow → List ℕ → ℕ → List Receipt
receipts_to kept caller zero = []
receipts_to kept caller (suc n) =
    receipts_to kept caller n ++ filter_map receipt_of_row (filter (is_kept caller (suc n)) kept)

abbrev pub callers_of : List KeptRow → List CallerRow → CallerMap
callers_of kept [] = empty
callers_of kept (row ∷ rows) =
    insert (callers_of kept rows) row.name (receipts_to kept row.name row.settled)

-- the map of values by the names of their rows

abbrev pub map_of : {R A : Type 0} → (R → List ℕ) → (R → Option A) → List R
    → FinMap (slice_cmp nat_cmp) A
map_of name value [] = empty
map_of name value (row ∷ rows) = put_some (map_of name value rows) (name row) (value row)

abbrev pub first_row : {R : Type 0} → List R → Option R
first_row rows = slice_get rows 0

-- Templates.

-- the revisions 1 to n of a template
abbrev pub revisions_to : List RevisionRow → List ℕ → ℕ → List Template
revisions_to rows name zero = []
revisions_to rows name (suc n) =
    revisions_to rows name n ++ filter_map revision_of_row (filter (is_revision name (suc n)) rows)

-- as many revisions as there are rows of that name
abbrev pub revisions_in : List RevisionRow → List ℕ → List Template
revisions_in all name = revisions_to all name (length (filter (is_revision_of name) all))

abbrev pub templates_of : List RevisionRow → List RevisionRow → RevisionMap
templates_of all [] = empty
templates_of all (row ∷ rows) = insert (templates_of all rows) row.name (revisions_in all row.name)

-- the template of the revision that a binding names
abbrev pub revision_bound : List RevisionRow → BindingRow → Option Template
revision_bound rows b =
    option_and_then revision_of_row (first_row (filter (is_revision b.template b.revision) rows))

-- the templates to which a run of a service is bound; run 0 stands for its present attempt
abbrev pub known_in : Tables → List ℕ → ℕ → Templates
known_in t service run name =
    option_and_then (revision_bound t.revisions)
    (first_row (filter (is_binding service run name) t.bindings))

-- what is past of a service

abbrev pub measurements_in : List MeasurementRow → List ℕ → List Recorded
measurements_in rows name = filter_map measurement_of_row (filter (is_measurement_of name) rows)

abbrev pub history_in : List HistoryRow → List ℕ → List Line
history_in rows name = filter_map line_of_row (filter (is_line_of name) rows)

-- its runs 1 to n
abbrev pub runs_to : Tables → CheckedStrategy → List Recorded → List ℕ → ℕ → List Run
runs_to t strategy measurements name zero = []
runs_to t strategy measurements name (suc n) =
    runs_to t strategy measurements name n
    ++ filter_map (run_of_row strategy (known_in t name (suc n)) measurements)
    (filter (is_run name (suc n)) t.runs)

abbrev pub past_in : Tables → List ℕ → CheckedStrategy → ℕ → Past
past_in t name strategy runs =
    let measurements = measurements_in t.measurements name in
    record {
      runs = runs_to t strategy measurements name runs;
      measurements = measurements;
      history = history_in t.history name;
    }

-- services

abbrev pub service_from : Tables → ServiceRow → ServiceSpec → Option ServiceState
    → Option ModelService
service_from t row made None = None
service_from t row made (Some service) =
    Some (record {
      made = made;
      service = service;
      past = past_in t row.name (strategy_of made) row.standing.runs;
    })

-- it is bound to the templates of its present attempt
abbrev pub service_made : Tables → ServiceRow → ServiceSpec → Option ModelService
service_made t row made =
    let strategy = strategy_of made in let bound = bound_of (known_in t row.name 0) strategy in
    service_from t row made (stand_of row.name strategy bound row.standing)

abbrev pub service_of_row : Tables → ServiceRow → Option ModelService
service_of_row t row =
    option_and_then (service_made t row) (made_from (canonical_in row.spec))

abbrev pub services_of : Tables → FinMap (slice_cmp nat_cmp) ModelService
services_of t = map_of (λ (row : ServiceRow). row.name) (service_of_row t) t.services

abbrev pub contents_of : Tables → Contents
contents_of t =
    record {
      callers = callers_of t.kept t.callers;
      desk = record
          { templates = templates_of t.revisions t.revisions; services = services_of t };
    }

-- tables hold contents: their rows are those of what they are read as, all of which is read back,
-- and what holds of all contents holds of it
pub record HoldsContents (t : Tables) : Type 0 where
  pub rows : AreRows t (contents_of t)
  pub readable : IsReadable (contents_of t)
  pub lawful : AreContents (contents_of t)
