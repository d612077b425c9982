-- The row of a value is read as this value.
use Rattle.std.proofs.Common.{◌≡◌, inl, inr, ℕ, zero, suc, List, [], ◌∷◌, length, Bool, true, false, Some, None, refl, sym, ap, ◌∙◌, subst}
use Rattle.std.specs.Prelude.{Option, map, option_map, slice_get}
use Rattle.std.specs.List.{filter_map, cons_option, AllByRecursion}
use Rattle.canary_plan.specs.declared.template.Template.{Template}
use Rattle.canary_plan.specs.declared.bound.BoundParts.{BoundParts}
use Rattle.canary_plan.specs.declared.strategy.CheckedStrategy.{CheckedStrategy}
use Rattle.canary_plan.specs.declared.command.Command.TheVariants as command
use Rattle.canary_plan.specs.declared.line.Line.{Line}
use Rattle.canary_plan.specs.Lines.{line_at}
use Rattle.canary_plan.specs.Plans.{Templates, template_of, bound_of, analysis_or_none}
use Rattle.canary_release.specs.declared.effect.Recorded.{Recorded}
use Rattle.canary_release.specs.declared.effect.Closing.{Closing}
use Rattle.canary_release.specs.declared.reply.ReplyStatus.{ReplyStatus}
use Rattle.canary_release.specs.declared.state.ReleaseState.{ReleaseState}
use Rattle.canary_release.specs.declared.state.ReleaseState.TheVariants.{InProgress, Aborted, Done}
use Rattle.canary_release.specs.declared.state.ServiceState.{ServiceState}
use Rattle.canary_release.specs.Replies.{status_code}
use Rattle.canary_release.specs.Order.{AreLists, IsRun, IsTemplate}
use Rattle.canary_release.specs.Pasts.{Run}
use Rattle.canary_release.specs.Desks.{ModelService, RevisionMap}
use Rattle.canary_once.specs.declared.book.Receipt.{Receipt}
use Rattle.canary_once.specs.Contents.{IsSettledStatus}
use Rattle.canary_tables_contents.specs.Numbers.{state_of, state_number, truth_of, bit, hold_of, hold_number, status_of}
use Rattle.canary_tables_contents.specs.Values.{kept_row, receipt_from, receipt_of_row, revision_row, revision_from, revision_of_row, standing_of, stand_from, stand_of, ending_of, closing_from, closing_of, run_row, run_from, run_of_row, lists_in, measurement_row, measurement_from, measurement_of_row, history_row, line_of_row}
use Rattle.canary_tables_contents.specs.Tables.{IsReadableCommand, IsReadableMeasurement, IsReadableLine, IsReadableClosing, IsReadableRun, row_if}
use Rattle.canary_tables_contents.specs.Reading.{first_row}
use Rattle.canary_tables_contents.specs.Finding.{IsFound}

-- Numbers.

pub state_back : (s : ReleaseState) → state_of (state_number s) ≡ Some s
state_back InProgress = refl
state_back Aborted = refl
state_back Done = refl

pub truth_back : (b : Bool) → truth_of (bit b) ≡ Some b
truth_back true = refl
truth_back false = refl

pub hold_back : (a b : Bool) → hold_of (hold_number a b) ≡ Some (a, b)
hold_back false false = refl
hold_back true false = refl
hold_back false true = refl
hold_back true true = refl

status_back : (s : ReplyStatus) → IsSettledStatus s → status_of (status_code s) ≡ Some s
status_back s (inl e) = subst (λ (x : ReplyStatus). status_of (status_code x) ≡ Some x) (sym e) refl
status_back s (inr e) = subst (λ (x : ReplyStatus). status_of (status_code x) ≡ Some x) (sym e) refl

-- Values.

pub receipt_back : (caller : List ℕ) (number : ℕ) (r : Receipt) → IsReadableCommand r.command → IsSettledStatus r.reply.status → receipt_of_row (kept_row caller number r) ≡ Some r
receipt_back caller number r command status = λ i. receipt_from (kept_row caller number r) (command i) (status_back r.reply.status status i)

pub revision_back : (name : List ℕ) (number : ℕ) (t : Template) → IsReadableCommand (command.Template t.spec) → IsTemplate name number t → revision_of_row (revision_row name t) ≡ Some t
revision_back name number t readable is =
    let numbered : t.revision ≡ number = ap (λ (x : Template). x.revision) is.bound in
    ap (revision_from t.revision) readable ∙ ap (λ n. Some (template_of t.spec n)) numbered ∙ ap Some (sym is.bound)

pub stand_back : (name : List ℕ) (strategy : CheckedStrategy) (bound : BoundParts) (s : ServiceState) (runs : ℕ) → s.name ≡ name → s.strategy ≡ strategy → s.bound ≡ bound → stand_of name strategy bound (standing_of s runs) ≡ Some s
stand_back name strategy bound s runs named is to =
    (λ i. stand_from name strategy bound (standing_of s runs) (state_back s.state i) (hold_back s.step_hold s.background_hold i) (truth_back s.background i))
    ∙ (λ i. Some (record s { name = sym named i; strategy = sym is i; bound = sym to i }))

pub closing_back : (number : ℕ) (o : Option Closing) → IsReadableClosing number o → closing_of number (ending_of o) ≡ Some o
closing_back number None readable = refl
closing_back number (Some x) readable = (λ i. closing_from number x.at (truth_back x.outside i) (readable.1 i)) ∙ (λ i. Some (Some (record x { run = sym readable.0 i })))

lists_back : (all : List Recorded) (run metric : ℕ) (lists : List (List Recorded)) → AreLists all run metric lists → lists_in all run metric (length lists) ≡ lists
lists_back all run metric [] are = refl
lists_back all run metric (list ∷ lists) are = λ i. sym are.2 i ∷ lists_back all run (suc metric) lists are.3 i

-- by templates by which its analysis is bound at its step
pub run_back : (name : List ℕ) (templates : RevisionMap) (s : ModelService) (strategy : CheckedStrategy) (known : Templates) (r : Run) → IsRun templates s r → IsReadableRun r
    → analysis_or_none (bound_of known strategy) r.step ≡ r.analysis → run_of_row strategy known s.past.measurements (run_row name r) ≡ Some r
run_back name templates s strategy known r is readable bound =
    let all : List Recorded = s.past.measurements in
    let lists : lists_in all r.number 0 (length r.analysis.metrics) ≡ r.lists = ap (lists_in all r.number 0) (sym is.one_each) ∙ lists_back all r.number 0 r.lists is.lists in
    (λ i. run_from all (bound i) (run_row name r) (closing_back r.number r.closed readable i)) ∙ (λ i. Some (record r { lists = lists i }))

pub measurement_back : (name : List ℕ) (x : Recorded) → IsReadableMeasurement x → measurement_of_row (measurement_row name x) ≡ Some x
measurement_back name x readable = λ i. measurement_from (measurement_row name x) (readable.phase i) (readable.outcome i)

pub line_back : (name : List ℕ) (line : Line) → IsReadableLine line → line_of_row (history_row name line) ≡ Some line
line_back name line readable = ap (option_map (line_at line.moment)) readable

-- Lists.

pub all_at : {A : Type 0} (P : A → Type 0) (xs : List A) → AllByRecursion P xs → (i : ℕ) (x : A) → slice_get xs i ≡ Some x → P x
all_at P [] all i x e = absurd (cc)
all_at P (y ∷ xs) all zero x e = let same : y ≡ x = cc in subst P same all.0
all_at P (y ∷ xs) all (suc i) x e = all_at P xs all.1 i x e

pub all_back : {A R : Type 0} (row : A → R) (value : R → Option A) (P : A → Type 0) → ((x : A) → P x → value (row x) ≡ Some x) → (xs : List A) → AllByRecursion P xs → filter_map value (map row xs) ≡ xs
all_back row value P back [] all = refl
all_back row value P back (x ∷ xs) all = λ i. cons_option (back x all.0 i) (all_back row value P back xs all.1 i)

-- Under a key.

-- one row or none is found as what there is
if_found : {A R : Type 0} (row : A → R) (reads : R → Option A) (o : Option A) → ((x : A) → o ≡ Some x → reads (row x) ≡ Some x) → IsFound reads (first_row (row_if row o)) o
if_found row reads None back = record { value = refl; read = refl }
if_found row reads (Some x) back = record { value = back x refl; read = ap Some (back x refl) }

-- under these rows
pub found_under : {A R : Type 0} (row : A → R) (reads : R → Option A) (rows : List R) (o : Option A) → rows ≡ row_if row o → ((x : A) → o ≡ Some x → reads (row x) ≡ Some x) → IsFound reads (first_row rows) o
found_under row reads rows o are back = subst (λ rs. IsFound reads (first_row rs) o) (sym are) (if_found row reads o back)
