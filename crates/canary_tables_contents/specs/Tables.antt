-- When tables hold just the rows of some contents.
use Rattle.std.specs.Prelude.{◌≡◌, ℕ, zero, suc, Bool, List, [], ◌∷◌, length, map, filter, find, Option, Some, None, slice_get}
use Rattle.std.specs.List.{AllByRecursion}
use Rattle.std.specs.FinMap.{get}
use Rattle.std.specs.Str.{bytes_eq}
use Rattle.canary_condition.specs.PhaseTexts.{phase_of_number}
use Rattle.canary_plan.specs.declared.template.Template.{Template}
use Rattle.canary_plan.specs.declared.analysis_parts.Revision.{Revision}
use Rattle.canary_plan.specs.declared.command.Command.{Command}
use Rattle.canary_plan.specs.declared.command.Command.TheVariants as command
use Rattle.canary_plan.specs.declared.line.Line.{Line}
use Rattle.canary_plan.specs.Plans.{all_revisions}
use Rattle.canary_plan.specs.Lines.{words}
use Rattle.canary_plan.specs.LineReading.{event_of}
use Rattle.canary_canonical.specs.Texts.{command_text}
use Rattle.canary_canonical.specs.Readings.{canonical_in}
use Rattle.canary_release.specs.declared.effect.Recorded.{Recorded}
use Rattle.canary_release.specs.declared.effect.Closing.{Closing}
use Rattle.canary_release.specs.Pasts.{Run, Past, counts_of}
use Rattle.canary_release.specs.Desks.{ModelService, revisions_of}
use Rattle.canary_once.specs.declared.book.Receipt.{Receipt}
use Rattle.canary_once.specs.Contents.{Contents, receipts_of, receipt_at}
use Rattle.canary_once.specs.Records.{past_of}
use Rattle.canary_tables_rows.specs.declared.rows.KeptRow.{KeptRow}
use Rattle.canary_tables_rows.specs.declared.rows.RevisionRow.{RevisionRow}
use Rattle.canary_tables_rows.specs.declared.rows.BindingRow.{BindingRow}
use Rattle.canary_tables_rows.specs.declared.rows.RunRow.{RunRow}
use Rattle.canary_tables_rows.specs.declared.rows.TallyRow.{TallyRow}
use Rattle.canary_tables_rows.specs.Tables.{Tables, is_caller, is_kept, is_revision, is_service, is_binding, is_run, is_tally, is_measurement_of, is_line_of}
use Rattle.canary_tables_contents.specs.Numbers.{phase_column}
use Rattle.canary_condition.specs.OutcomeTexts.{outcome_text, outcome_in}
use Rattle.canary_tables_contents.specs.Values.{caller_row, kept_row, revision_row, service_row, binding_row, run_row, tally_row, measurement_row, history_row}

-- Which rows stand under a key: one or none, or a list in its order.

-- the row of what there is
abbrev pub row_if : {A R : Type 0} → (A → R) → Option A → List R
row_if row None = []
row_if row (Some x) = row x ∷ []

-- numbers count from 1
abbrev pub kept_rows : List ℕ → ℕ → List Receipt → List KeptRow
kept_rows caller zero receipts = []
kept_rows caller (suc place) receipts =
    row_if (kept_row caller (suc place)) (slice_get receipts place)

-- revisions are numbered from 1
abbrev pub revision_rows : List ℕ → ℕ → List Template → List RevisionRow
revision_rows name zero templates = []
revision_rows name (suc place) templates =
    row_if (revision_row name) (slice_get templates place)

-- the run of that number, in a list in order of their numbers
abbrev pub run_at : ℕ → List Run → Option Run
run_at zero runs = None
run_at (suc place) runs = slice_get runs place

abbrev pub run_rows : List ℕ → ℕ → List Run → List RunRow
run_rows name number runs = row_if (run_row name) (run_at number runs)

abbrev pub is_of_template : List ℕ → Revision → Bool
is_of_template name r = bytes_eq name r.template

abbrev pub revisions_of_run : Option Run → List Revision
revisions_of_run None = []
revisions_of_run (Some r) = r.analysis.revisions

-- the revisions to which a run of a service is bound; run 0 stands for its present attempt
abbrev pub revisions_bound : Option ModelService → ℕ → List Revision
revisions_bound None number = []
revisions_bound (Some m) zero = all_revisions m.service.bound
revisions_bound (Some m) (suc place) = revisions_of_run (slice_get m.past.runs place)

abbrev pub binding_rows : List ℕ → ℕ → List ℕ → Option ModelService → List BindingRow
binding_rows name number template m =
    row_if (binding_row name number) (find (is_of_template template) (revisions_bound m number))

abbrev pub tally_rows_of : List ℕ → ℕ → ℕ → Option Run → List TallyRow
tally_rows_of name number metric None = []
tally_rows_of name number metric (Some r) =
    row_if (λ list. tally_row name number metric (counts_of list)) (slice_get r.lists metric)

abbrev pub tally_rows : List ℕ → ℕ → ℕ → List Run → List TallyRow
tally_rows name number metric runs = tally_rows_of name number metric (run_at number runs)

-- under each key the tables have the rows of the contents, each once, and no others; a service's
-- measurements and lines stand in order
pub record AreRows (t : Tables) (c : Contents) : Type 0 where
  pub callers : (name : List ℕ)
      → filter (is_caller name) t.callers
      ≡ row_if (λ receipts. caller_row name (length receipts)) (get c.callers name)
  pub kept : (caller : List ℕ) (number : ℕ)
      → filter (is_kept caller number) t.kept ≡ kept_rows caller number (receipts_of c caller)
  pub revisions : (name : List ℕ) (number : ℕ)
      → filter (is_revision name number) t.revisions
      ≡ revision_rows name number (revisions_of c.desk.templates name)
  pub services : (name : List ℕ)
      → filter (is_service name) t.services ≡ row_if (service_row name) (get c.desk.services name)
  pub bindings : (name : List ℕ) (number : ℕ) (template : List ℕ)
      → filter (is_binding name number template) t.bindings
      ≡ binding_rows name number template (get c.desk.services name)
  pub runs : (name : List ℕ) (number : ℕ)
      → filter (is_run name number) t.runs ≡ run_rows name number (past_of c name).runs
  pub tallies : (name : List ℕ) (number metric : ℕ)
      → filter (is_tally name number metric) t.tallies
      ≡ tally_rows name number metric (past_of c name).runs
  pub measurements : (name : List ℕ)
      → filter (is_measurement_of name) t.measurements
      ≡ map (measurement_row name) (past_of c name).measurements
  pub history : (name : List ℕ)
      → filter (is_line_of name) t.history ≡ map (history_row name) (past_of c name).history

-- What is read back: values whose texts and numbers are read as these values. All that a program
-- keeps is; a command with a name of any bytes is not.

abbrev pub IsReadableCommand : Command → Type 0
IsReadableCommand c = canonical_in (command_text c) ≡ Some c

pub record IsReadableMeasurement (x : Recorded) : Type 0 where
  pub phase : phase_of_number (phase_column x.phase) ≡ Some x.phase
  pub outcome : outcome_in (outcome_text x.outcome) ≡ Some x.outcome

abbrev pub IsReadableLine : Line → Type 0
IsReadableLine line = event_of (words line.event) ≡ Some line.event

-- it is of that run, and its verdict is a phase that is kept
abbrev pub IsReadableClosing : ℕ → Option Closing → Type 0
IsReadableClosing number None = Unit {0}
IsReadableClosing number (Some x) =
    (x.run ≡ number) × (phase_of_number (phase_column x.verdict) ≡ Some x.verdict)

abbrev pub IsReadableRun : Run → Type 0
IsReadableRun r = IsReadableClosing r.number r.closed

pub record IsReadablePast (p : Past) : Type 0 where
  pub runs : AllByRecursion IsReadableRun p.runs
  pub measurements : AllByRecursion IsReadableMeasurement p.measurements
  pub history : AllByRecursion IsReadableLine p.history

pub record IsReadable (c : Contents) : Type 0 where
  pub receipts : (caller : List ℕ) (number : ℕ) (receipt : Receipt)
      → receipt_at c caller number ≡ Some receipt → IsReadableCommand receipt.command
  pub templates : (name : List ℕ)
      → AllByRecursion (λ (t : Template). IsReadableCommand (command.Template t.spec))
      (revisions_of c.desk.templates name)
  pub made : (name : List ℕ) (m : ModelService) → get c.desk.services name ≡ Some m
      → IsReadableCommand (command.Service m.made)
  pub pasts : (name : List ℕ) → IsReadablePast (past_of c name)
