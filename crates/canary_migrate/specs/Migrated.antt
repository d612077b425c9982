-- A desk of the first schema, and what its rows become.
use Rattle.std.specs.Prelude.{◌≡◌, ℕ, zero, suc, ◌==◌, ◌++◌, Bool, List, [], map, filter, flat_map, slice_get, Option, Some, None}
use Rattle.std.specs.List.{suffix_len}
use Rattle.sqlite.specs.Effect.{Database}
use Rattle.canary_metric.specs.Counts.{Counts}
use Rattle.canary_plan.specs.declared.analysis_parts.Revision.{Revision}
use Rattle.canary_plan.specs.declared.service.Background.{Background}
use Rattle.canary_plan.specs.declared.service.ServiceSpec.{ServiceSpec}
use Rattle.canary_plan.specs.declared.step.Step.{Step}
use Rattle.canary_plan.specs.declared.step.Step.TheVariants.{Analysis}
use Rattle.canary_plan.specs.Commands.{all_names}
use Rattle.canary_plan.specs.PlanRefusals.{analyses}
use Rattle.canary_plan.specs.Plans.{distinct}
use Rattle.canary_canonical.specs.Readings.{canonical_in}
use Rattle.canary_tables_rows.specs.declared.rows.CallerRow.{CallerRow}
use Rattle.canary_tables_rows.specs.declared.rows.KeptRow.{KeptRow}
use Rattle.canary_tables_rows.specs.declared.rows.RevisionRow.{RevisionRow}
use Rattle.canary_tables_rows.specs.declared.rows.BindingRow.{BindingRow}
use Rattle.canary_tables_rows.specs.declared.rows.ServiceRow.{ServiceRow}
use Rattle.canary_tables_rows.specs.declared.rows.RunRow.{RunRow}
use Rattle.canary_tables_rows.specs.declared.rows.TallyRow.{TallyRow}
use Rattle.canary_tables_rows.specs.declared.rows.MeasurementRow.{MeasurementRow}
use Rattle.canary_tables_rows.specs.declared.rows.HistoryRow.{HistoryRow}
use Rattle.canary_tables_rows.specs.Tables.{Tables, is_service, is_run}
use Rattle.canary_tables_schema.specs.Cells.{cells_of, caller_cells, kept_cells, service_cells, run_cells, measurement_cells, history_cells}
use Rattle.canary_tables_schema.specs.First.{first_schema, HasFirstMeta}
use Rattle.canary_tables_contents.specs.Values.{binding_row, made_from}
use Rattle.canary_tables_read.specs.declared.first.TemplateRow.{TemplateRow}
use Rattle.canary_tables_read.specs.declared.first.FirstTally.{FirstTally}
use Rattle.canary_tables_read.specs.Finds.{first}
use Rattle.canary_tables_read.specs.First.{AreTemplatesIn, AreTalliesIn}
use Rattle.canary_tables_read.specs.Metrics.{is_measurement_in}

-- the rows of a desk of the first schema
pub record FirstTables : Type 0 where
  pub callers : List CallerRow
  pub kept : List KeptRow
  pub templates : List TemplateRow
  pub services : List ServiceRow
  pub runs : List RunRow
  pub tallies : List FirstTally
  pub measurements : List MeasurementRow
  pub history : List HistoryRow

-- a database is of the first schema, and holds just these rows
pub record HoldsFirst (db : Database) (f : FirstTables) : Type 0 where
  pub schema : db.schema ≡ first_schema
  pub meta : HasFirstMeta (db.trees 0)
  pub callers : cells_of (db.trees 1) ≡ map caller_cells f.callers
  pub kept : cells_of (db.trees 3) ≡ map kept_cells f.kept
  pub templates : AreTemplatesIn db f.templates
  pub services : cells_of (db.trees 7) ≡ map service_cells f.services
  pub runs : cells_of (db.trees 9) ≡ map run_cells f.runs
  pub tallies : AreTalliesIn db f.tallies
  pub measurements : cells_of (db.trees 13) ≡ map measurement_cells f.measurements
  pub history : cells_of (db.trees 16) ≡ map history_cells f.history

-- Each template is revision 1 of its name.

abbrev pub first_revision : TemplateRow → RevisionRow
first_revision row = record { name = row.name; revision = 1; spec = row.spec }

-- Each service and each run is bound to revision 1 of every template that its strategy, or its
-- analysis, names.

-- revision 1 of the template
abbrev pub first_of : List ℕ → Revision
first_of name = record { template = name; number = 1 }

-- a run of a service, or its present attempt (0), is bound to revision 1 of these templates
abbrev pub bindings_to : List ℕ → ℕ → List (List ℕ) → List BindingRow
bindings_to service run names = map (binding_row service run) (distinct (map first_of names))

abbrev pub names_if : Option Step → List (List ℕ)
names_if (Some (Analysis names)) = names
names_if step = []

abbrev pub background_names : Option Background → List (List ℕ)
background_names None = []
background_names (Some b) = b.templates

-- the templates of the analysis at that step, or of the background
abbrev pub names_at : ServiceSpec → Option ℕ → List (List ℕ)
names_at made None = background_names made.background
names_at made (Some step) = names_if (slice_get made.steps step)

abbrev pub run_bindings : ServiceSpec → Option RunRow → List BindingRow
run_bindings made None = []
run_bindings made (Some run) = bindings_to run.service run.number (names_at made run.step)

-- those of the runs from 1 to that number, of the service of that name
abbrev pub bindings_of_runs : List RunRow → List ℕ → ServiceSpec → ℕ → List BindingRow
bindings_of_runs runs name made zero = []
bindings_of_runs runs name made (suc n) =
    bindings_of_runs runs name made n
    ++ run_bindings made (first (filter (is_run name (suc n)) runs))

-- those of the present attempt, and then those of the runs; a text that makes no service names none
abbrev pub bindings_made : List RunRow → ServiceRow → Option ServiceSpec → List BindingRow
bindings_made runs row None = []
bindings_made runs row (Some made) =
    bindings_to row.name 0 (all_names (analyses made))
    ++ bindings_of_runs runs row.name made row.standing.runs

abbrev pub service_bindings : List RunRow → Option ServiceRow → List BindingRow
service_bindings runs None = []
service_bindings runs (Some row) = bindings_made runs row (made_from (canonical_in row.spec))

-- those of the service of that name
abbrev pub bindings_named : List ServiceRow → List RunRow → List ℕ → List BindingRow
bindings_named services runs name =
    service_bindings runs (first (filter (is_service name) services))

abbrev pub all_bindings : List ServiceRow → List RunRow → List BindingRow
all_bindings services runs =
    flat_map (bindings_named services runs) (map (λ (row : ServiceRow). row.name) services)

-- A tally keeps its counts; its passes are counted anew.

-- a measurement's phase is Successful
abbrev pub is_passed : MeasurementRow → Bool
is_passed row = row.phase == 1

-- the length of the longest suffix of successes among the measurements of that metric of the run
abbrev pub passes_of : List MeasurementRow → FirstTally → ℕ
passes_of measurements row =
    suffix_len is_passed (filter (is_measurement_in row.service row.run row.metric) measurements)

abbrev pub counted_with : FirstTally → ℕ → TallyRow
counted_with row passes = record {
  service = row.service;
  run = row.run;
  metric = row.metric;
  counts = record {
    counted = row.counted;
    failed = row.failed;
    inconclusive = row.inconclusive;
    errors = row.errors;
    consecutive = row.consecutive;
    passes = passes;
    last = row.last;
  };
}

abbrev pub tally_of : List MeasurementRow → FirstTally → TallyRow
tally_of measurements row = counted_with row (passes_of measurements row)

-- All else stays as it is.
abbrev pub migrated : FirstTables → Tables
migrated f = record {
  callers = f.callers;
  kept = f.kept;
  revisions = map first_revision f.templates;
  services = f.services;
  bindings = all_bindings f.services f.runs;
  runs = f.runs;
  tallies = map (tally_of f.measurements) f.tallies;
  measurements = f.measurements;
  history = f.history;
}
