-- The rows that reads choose, by the names of their callers and services, and by numbers.
use Rattle.std.specs.Prelude.{ℕ, List, Option, map, filter, take, drop, option_map, Bool}
use Rattle.std.specs.List.{list_any}
use Rattle.canary_tables_rows.specs.declared.rows.CallerRow.{CallerRow}
use Rattle.canary_tables_rows.specs.declared.rows.KeptRow.{KeptRow}
use Rattle.canary_tables_rows.specs.declared.rows.RevisionRow.{RevisionRow}
use Rattle.canary_tables_rows.specs.declared.rows.ServiceRow.{ServiceRow}
use Rattle.canary_tables_rows.specs.declared.rows.BindingRow.{BindingRow}
use Rattle.canary_tables_rows.specs.declared.rows.RunRow.{RunRow}
use Rattle.canary_tables_rows.specs.declared.rows.TallyRow.{TallyRow}
use Rattle.canary_tables_rows.specs.declared.rows.MeasurementRow.{MeasurementRow}
use Rattle.canary_tables_rows.specs.declared.rows.HistoryRow.{HistoryRow}
use Rattle.canary_tables_rows.specs.Tables.{Tables, is_caller, is_kept, is_revision, is_revision_of, is_service, is_binding_of, is_run, is_open_run_of, is_tally_of, is_measurement_of, is_line_of}
use Rattle.canary_tables_read.specs.Finds.{first}
use Rattle.canary_tables_read.specs.Metrics.{is_measurement_in}
use Rattle.canary_tables_read.specs.Pages.{is_kept_between, is_run_between, is_binding_between, is_tally_between}
use Rattle.canary_tables_read.specs.Sorts.{IsFront, Sorts, is_run_of, number_of}
use Rattle.canary_tables_rows.specs.Newest.{IsNewest}

-- those of a table of which this is so
abbrev pub callers_of : List ℕ → Tables → List CallerRow
callers_of name t = filter (is_caller name) t.callers

abbrev pub kept_of : List ℕ → ℕ → Tables → List KeptRow
kept_of caller number t = filter (is_kept caller number) t.kept

abbrev pub kept_after : List ℕ → ℕ → ℕ → Tables → List KeptRow
kept_after caller after last t = filter (is_kept_between caller after last) t.kept

abbrev pub revisions_of : List ℕ → Tables → List RevisionRow
revisions_of name t = filter (is_revision_of name) t.revisions

abbrev pub revision_of : List ℕ → ℕ → Tables → List RevisionRow
revision_of name number t = filter (is_revision name number) t.revisions

abbrev pub service_of : List ℕ → Tables → List ServiceRow
service_of name t = filter (is_service name) t.services

abbrev pub bindings_of : List ℕ → ℕ → Tables → List BindingRow
bindings_of service run t = filter (is_binding_of service run) t.bindings

abbrev pub bindings_after : List ℕ → ℕ → ℕ → Tables → List BindingRow
bindings_after service after last t = filter (is_binding_between service after last) t.bindings

abbrev pub runs_of : List ℕ → Tables → List RunRow
runs_of service t = filter (is_run_of service) t.runs

abbrev pub open_runs_of : List ℕ → Tables → List RunRow
open_runs_of service t = filter (is_open_run_of service) t.runs

abbrev pub runs_after : List ℕ → ℕ → ℕ → Tables → List RunRow
runs_after service after last t = filter (is_run_between service after last) t.runs

abbrev pub tallies_of : List ℕ → ℕ → Tables → List TallyRow
tallies_of service run t = filter (is_tally_of service run) t.tallies

abbrev pub tallies_after : List ℕ → ℕ → ℕ → Tables → List TallyRow
tallies_after service after last t = filter (is_tally_between service after last) t.tallies

abbrev pub measurements_of : List ℕ → Tables → List MeasurementRow
measurements_of service t = filter (is_measurement_of service) t.measurements

abbrev pub measured_in : List ℕ → ℕ → ℕ → Tables → List MeasurementRow
measured_in service run metric t = filter (is_measurement_in service run metric) t.measurements

abbrev pub lines_of : List ℕ → Tables → List HistoryRow
lines_of service t = filter (is_line_of service) t.history

-- the first run of that number
abbrev pub run_of : List ℕ → ℕ → Tables → Option RunRow
run_of service number t = first (filter (is_run service number) t.runs)

-- how many requests of a caller are settled
abbrev pub settled_of : List ℕ → Tables → Option ℕ
settled_of caller t = option_map (λ row. row.settled) (first (callers_of caller t))

-- the names of all services
abbrev pub all_names : Tables → List (List ℕ)
all_names t = map (λ row. row.name) t.services

-- whether an attempt has a binding
abbrev pub is_attempt_bound : List ℕ → Tables → Bool
is_attempt_bound service t = list_any (is_binding_of service 0) t.bindings

-- the first of those
abbrev pub first_kept : List ℕ → ℕ → Tables → Option KeptRow
first_kept caller number t = first (kept_of caller number t)

abbrev pub first_revision : List ℕ → ℕ → Tables → Option RevisionRow
first_revision name number t = first (revision_of name number t)

abbrev pub first_service : List ℕ → Tables → Option ServiceRow
first_service name t = first (service_of name t)

-- so many lines of a service from that one on, counted from 0
abbrev pub lines_from : List ℕ → ℕ → ℕ → Tables → List HistoryRow
lines_from service from most t = take most (drop from (lines_of service t))

-- the newest revision of a template, if it has one
abbrev pub IsNewestOf : List ℕ → Tables → Option RevisionRow → Type 0
IsNewestOf name t found = IsNewest (revisions_of name t) found

-- the open runs of a service, sorted by their numbers
abbrev pub SortsOpenRunsOf : List ℕ → Tables → List RunRow → Type 0
SortsOpenRunsOf service t found = Sorts number_of (open_runs_of service t) found

-- the first runs of a service as they are read: three at most
abbrev pub IsFrontOf : List ℕ → Tables → List RunRow → Type 0
IsFrontOf service t found = IsFront 3 (runs_of service t) found
