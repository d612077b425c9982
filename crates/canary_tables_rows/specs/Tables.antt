-- The rows of the desk's tables, each table a list in the order of its rowids, and which rows have
-- a key.
use Rattle.std.specs.Prelude.{ℕ, ◌==◌, ◌&&◌, Bool, List, [], is_none}
use Rattle.std.specs.Str.{bytes_eq}
use Rattle.canary_tables_rows.specs.declared.rows.CallerRow.{CallerRow}
use Rattle.canary_tables_rows.specs.declared.rows.KeptRow.{KeptRow}
use Rattle.canary_tables_rows.specs.declared.rows.RevisionRow.{RevisionRow}
use Rattle.canary_tables_rows.specs.declared.rows.BindingRow.{BindingRow}
use Rattle.canary_tables_rows.specs.declared.rows.ServiceRow.{ServiceRow}
use Rattle.canary_tables_rows.specs.declared.rows.RunRow.{RunRow}
use Rattle.canary_tables_rows.specs.declared.rows.TallyRow.{TallyRow}
use Rattle.canary_tables_rows.specs.declared.rows.MeasurementRow.{MeasurementRow}
use Rattle.canary_tables_rows.specs.declared.rows.HistoryRow.{HistoryRow}

-- the desk's tables, less the one row of meta
pub record Tables : Type 0 where
  pub callers : List CallerRow
  pub kept : List KeptRow
  pub revisions : List RevisionRow
  pub services : List ServiceRow
  pub bindings : List BindingRow
  pub runs : List RunRow
  pub tallies : List TallyRow
  pub measurements : List MeasurementRow
  pub history : List HistoryRow

abbrev pub no_tables : Tables
no_tables =
    record {
      callers = [];
      kept = [];
      revisions = [];
      services = [];
      bindings = [];
      runs = [];
      tallies = [];
      measurements = [];
      history = [];
    }

-- Which rows have a key.

abbrev pub is_caller : List ℕ → CallerRow → Bool
is_caller name row = bytes_eq name row.name

abbrev pub is_kept : List ℕ → ℕ → KeptRow → Bool
is_kept caller number row = bytes_eq caller row.caller && number == row.number

abbrev pub is_revision : List ℕ → ℕ → RevisionRow → Bool
is_revision name revision row = bytes_eq name row.name && revision == row.revision

abbrev pub is_revision_of : List ℕ → RevisionRow → Bool
is_revision_of name row = bytes_eq name row.name

abbrev pub is_service : List ℕ → ServiceRow → Bool
is_service name row = bytes_eq name row.name

abbrev pub is_binding : List ℕ → ℕ → List ℕ → BindingRow → Bool
is_binding service run template row =
    bytes_eq service row.service && (run == row.run && bytes_eq template row.template)

abbrev pub is_binding_of : List ℕ → ℕ → BindingRow → Bool
is_binding_of service run row = bytes_eq service row.service && run == row.run

abbrev pub is_run : List ℕ → ℕ → RunRow → Bool
is_run service number row = bytes_eq service row.service && number == row.number

abbrev pub is_open_run_of : List ℕ → RunRow → Bool
is_open_run_of service row = bytes_eq service row.service && is_none row.ending.closed

abbrev pub is_tally : List ℕ → ℕ → ℕ → TallyRow → Bool
is_tally service run metric row =
    bytes_eq service row.service && (run == row.run && metric == row.metric)

abbrev pub is_tally_of : List ℕ → ℕ → TallyRow → Bool
is_tally_of service run row = bytes_eq service row.service && run == row.run

abbrev pub is_measurement_of : List ℕ → MeasurementRow → Bool
is_measurement_of service row = bytes_eq service row.service

abbrev pub is_line_of : List ℕ → HistoryRow → Bool
is_line_of service row = bytes_eq service row.service
