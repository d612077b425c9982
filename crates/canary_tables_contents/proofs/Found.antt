-- Callers, receipts, revisions, histories and measurements are found.
use Rattle.std.proofs.Common.{◌≡◌, ℕ, zero, suc, ◌≤◌, List, [], ◌∷◌, length, take, Some, None, refl, sym, ap, ◌∙◌, subst, arith}
use Rattle.std.specs.Prelude.{Option, is_some, filter, find, map, drop, slice_get, unwrap_or}
use Rattle.std.specs.List.{filter_map, cons_option, AllByRecursion}
use Rattle.std.specs.FinMap.{get}
use Rattle.std.proofs.lemmas.List.{take-map, drop-map}
use Rattle.canary_canonical.specs.Readings.{IsCanonical}
use Rattle.canary_plan.specs.declared.template.Template.{Template}
use Rattle.canary_plan.specs.declared.line.Line.{Line}
use Rattle.canary_release.specs.declared.effect.Recorded.{Recorded}
use Rattle.canary_release.specs.Pasts.{Run, counts_of}
use Rattle.canary_once.specs.declared.book.Receipt.{Receipt}
use Rattle.canary_once.specs.Contents.{Contents, receipts_of, receipt_at}
use Rattle.canary_once.specs.Records.{past_of}
use Rattle.canary_tables_rows.specs.declared.rows.KeptRow.{KeptRow}
use Rattle.canary_tables_rows.specs.declared.rows.MeasurementRow.{MeasurementRow}
use Rattle.canary_tables_rows.specs.Tables.{Tables, is_kept, is_measurement_of}
use Rattle.canary_tables_contents.specs.Values.{caller_row, kept_row, receipt_of_row, revision_row, measurement_row, measurement_of_row, history_row, line_of_row, service_row, binding_row, run_row, tally_row}
use Rattle.canary_tables_contents.specs.Tables.{row_if, kept_rows, revision_rows, is_of_template, revisions_bound, run_at, tally_rows_of, IsReadableCommand, IsReadableLine, IsReadableMeasurement}
use Rattle.canary_tables_contents.specs.Reading.{first_row, contents_of, HoldsContents}
use Rattle.canary_tables_contents.specs.Finding.{IsFound, AreRead, settled_by}
use Rattle.canary_tables_contents.specs.Laws.{KeysAreUnique, CountsAreFound, ReceiptsAreFound, KeptTextsAreCanonical, RevisionsAreFound, NewestAreFound, HistoriesAreFound, MeasurementsAreFound}
use Rattle.canary_tables_contents.proofs.RowsBack.{receipt_back, measurement_back, line_back, found_under}
use Rattle.canary_tables_contents.proofs.RevisionsBack.{revision_found, newest_found}
use Rattle.canary_tables_contents.proofs.ReadBack.{at_number}

-- One row at most.

one_at_most : {A R : Type 0} (row : A → R) (o : Option A) → length (row_if row o) ≤ 1
one_at_most row None = omega arith
one_at_most row (Some x) = omega arith

one_kept : (caller : List ℕ) (number : ℕ) (receipts : List Receipt) → length (kept_rows caller number receipts) ≤ 1
one_kept caller zero receipts = omega arith
one_kept caller (suc place) receipts = one_at_most (kept_row caller (suc place)) (slice_get receipts place)

one_revision : (name : List ℕ) (number : ℕ) (templates : List Template) → length (revision_rows name number templates) ≤ 1
one_revision name zero templates = omega arith
one_revision name (suc place) templates = one_at_most (revision_row name) (slice_get templates place)

one_tally : (name : List ℕ) (number metric : ℕ) (o : Option Run) → length (tally_rows_of name number metric o) ≤ 1
one_tally name number metric None = omega arith
one_tally name number metric (Some r) = one_at_most (λ list. tally_row name number metric (counts_of list)) (slice_get r.lists metric)

as_long : {R : Type 0} (rows wanted : List R) → rows ≡ wanted → length wanted ≤ 1 → length rows ≤ 1
as_long rows wanted are few = subst (λ rs. length rs ≤ 1) (sym are) few

pub keys_are_unique : KeysAreUnique
keys_are_unique t holds =
    let runs : List ℕ → List Run = λ name. (past_of (contents_of t) name).runs in
    record {
      callers = λ name. as_long _ _ (holds.rows.callers name) (one_at_most (λ receipts. caller_row name (length receipts)) _);
      kept = λ caller number. as_long _ _ (holds.rows.kept caller number) (one_kept caller number _);
      revisions = λ name number. as_long _ _ (holds.rows.revisions name number) (one_revision name number _);
      services = λ name. as_long _ _ (holds.rows.services name) (one_at_most (service_row name) _);
      bindings = λ name number template. as_long _ _ (holds.rows.bindings name number template) (one_at_most (binding_row name number) (find (is_of_template template) (revisions_bound (get (contents_of t).desk.services name) number)));
      runs = λ name number. as_long _ _ (holds.rows.runs name number) (one_at_most (run_row name) (run_at number (runs name)));
      tallies = λ name number metric. as_long _ _ (holds.rows.tallies name number metric) (one_tally name number metric (run_at number (runs name)));
    }

-- Callers, receipts and revisions.

settled_in : (name : List ℕ) (o : Option (List Receipt)) → settled_by (first_row (row_if (λ receipts. caller_row name (length receipts)) o)) ≡ length (unwrap_or o [])
settled_in name None = refl
settled_in name (Some receipts) = refl

pub counts_are_found : CountsAreFound
counts_are_found t holds name = ap (λ rows. settled_by (first_row rows)) (holds.rows.callers name) ∙ settled_in name (get (contents_of t).callers name)

-- under the number after a place
receipt_found : (t : Tables) → HoldsContents t → (caller : List ℕ) (place : ℕ) → IsFound receipt_of_row (first_row (filter (is_kept caller (suc place)) t.kept)) (receipt_at (contents_of t) caller (suc place))
receipt_found t holds caller place =
    let c : Contents = contents_of t in
    let at : receipt_at c caller (suc place) ≡ slice_get (receipts_of c caller) place = at_number c caller place in
    found_under (kept_row caller (suc place)) receipt_of_row _ _ (holds.rows.kept caller (suc place) ∙ ap (row_if (kept_row caller (suc place))) (sym at))
    (λ r e. receipt_back caller (suc place) r (holds.readable.receipts caller (suc place) r e) (holds.lawful.statuses caller (suc place) r e))

pub receipts_are_found : ReceiptsAreFound
receipts_are_found t holds caller zero low = absurd (omega arith)
receipts_are_found t holds caller (suc place) low = receipt_found t holds caller place

canonical_if : (caller : List ℕ) (number : ℕ) (o : Option Receipt) → ((r : Receipt) → o ≡ Some r → IsReadableCommand r.command) → (row : KeptRow) → first_row (row_if (kept_row caller number) o) ≡ Some row → IsCanonical row.command
canonical_if caller number None readable row e = absurd (cc)
canonical_if caller number (Some r) readable row e =
    let same : kept_row caller number r ≡ row = cc in
    subst (λ (x : KeptRow). IsCanonical x.command) same (ap is_some (readable r refl))

pub kept_texts_are_canonical : KeptTextsAreCanonical
kept_texts_are_canonical t holds caller zero row e = let none : None ≡ Some row = ap first_row (sym (holds.rows.kept caller zero)) ∙ e in absurd (cc)
kept_texts_are_canonical t holds caller (suc place) row e =
    let c : Contents = contents_of t in
    canonical_if caller (suc place) (slice_get (receipts_of c caller) place) (λ r k. holds.readable.receipts caller (suc place) r (at_number c caller place ∙ k)) row (ap first_row (sym (holds.rows.kept caller (suc place))) ∙ e)

pub revisions_are_found : RevisionsAreFound
revisions_are_found t holds name number = revision_found t (contents_of t) holds.rows holds.readable holds.lawful name number

pub newest_are_found : NewestAreFound
newest_are_found t holds name row is = newest_found t (contents_of t) holds.rows holds.readable holds.lawful name row is

-- Lists.

each_back : {A R : Type 0} (row : A → R) (reads : R → Option A) (P : A → Type 0) → ((x : A) → P x → reads (row x) ≡ Some x) → (xs : List A) → AllByRecursion P xs → map reads (map row xs) ≡ map Some xs
each_back row reads P back [] all = refl
each_back row reads P back (x ∷ xs) all = λ i. back x all.0 i ∷ each_back row reads P back xs all.1 i

passed_over : {A R : Type 0} (reads : R → Option A) (rows : List R) → filter_map reads rows ≡ filter_map (λ x. x) (map reads rows)
passed_over reads [] = refl
passed_over reads (row ∷ rows) = ap (cons_option (reads row)) (passed_over reads rows)

all_there : {A : Type 0} (xs : List A) → filter_map (λ x. x) (map Some xs) ≡ xs
all_there [] = refl
all_there (x ∷ xs) = ap (λ (ys : List _). x ∷ ys) (all_there xs)

read_by : {A R : Type 0} (reads : R → Option A) (rows : List R) (xs : List A) → map reads rows ≡ map Some xs → AreRead reads rows xs
read_by reads rows xs each = record { values = passed_over reads rows ∙ ap (filter_map (λ x. x)) each ∙ all_there xs; each = each }

pub histories_are_found : HistoriesAreFound
histories_are_found t holds name =
    let lines : List Line = (past_of (contents_of t) name).history in
    read_by line_of_row _ lines (ap (map line_of_row) (holds.rows.history name) ∙ each_back (history_row name) line_of_row IsReadableLine (line_back name) lines (holds.readable.pasts name).history)

-- a page of the rows
paged : {A B : Type 0} (f : A → B) (from most : ℕ) (xs : List A) → take most (drop from (map f xs)) ≡ map f (take most (drop from xs))
paged f from most xs = ap (take most) (drop-map f from xs) ∙ take-map f most (drop from xs)

pub measurements_are_found : MeasurementsAreFound
measurements_are_found t holds name from most =
    let all : List Recorded = (past_of (contents_of t) name).measurements in
    let rows : List MeasurementRow = filter (is_measurement_of name) t.measurements in
    let each : map measurement_of_row rows ≡ map Some all = ap (map measurement_of_row) (holds.rows.measurements name)
    ∙ each_back (measurement_row name) measurement_of_row IsReadableMeasurement (measurement_back name) all (holds.readable.pasts name).measurements in
    read_by measurement_of_row _ (take most (drop from all)) (sym (paged measurement_of_row from most rows) ∙ ap (λ (ys : List (Option Recorded)). take most (drop from ys)) each ∙ paged Some from most all)
