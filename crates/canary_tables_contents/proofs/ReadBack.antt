-- Tables with the rows of some contents are read as those.
use Rattle.std.proofs.Common.{◌≡◌, ℕ, zero, suc, ◌-◌, List, [], ◌∷◌, ◌++◌, length, take, Bool, true, false, Some, None, refl, ap, ◌∙◌, arith}
use Rattle.std.specs.Prelude.{Option, cond, filter, map, slice_get, unwrap_or, option_and_then}
use Rattle.std.specs.Ordering.{nat_cmp}
use Rattle.std.specs.Cmp.Lexicographic.{slice_cmp}
use Rattle.std.specs.Str.{bytes_eq}
use Rattle.std.specs.Option.{option_or}
use Rattle.std.specs.List.{filter_map, cons_option, AllByRecursion}
use Rattle.std.specs.FinMap.{FinMap, get, get-empty}
use Rattle.std.proofs.Math.Seq.{take-length}
use Rattle.canary_plan.specs.declared.strategy.CheckedStrategy.{CheckedStrategy}
use Rattle.canary_plan.specs.declared.command.Command.{Command}
use Rattle.canary_plan.specs.declared.command.Command.TheVariants as command
use Rattle.canary_plan.specs.Plans.{strategy_of, bound_of, analysis_or_none}
use Rattle.canary_release.specs.Order.{IsRun, IsInOrder}
use Rattle.canary_release.specs.Pasts.{Run, Past}
use Rattle.canary_release.specs.Desks.{ModelService, RevisionMap}
use Rattle.canary_once.specs.declared.book.Receipt.{Receipt}
use Rattle.canary_once.specs.Contents.{Contents, IsSettledStatus, receipts_of, receipt_at, put_some}
use Rattle.canary_once.specs.Records.{past_in}
use Rattle.canary_once.specs.Sound.{AreContents}
use Rattle.canary_tables_rows.specs.declared.rows.CallerRow.{CallerRow}
use Rattle.canary_tables_rows.specs.declared.rows.KeptRow.{KeptRow}
use Rattle.canary_tables_rows.specs.declared.rows.ServiceRow.{ServiceRow}
use Rattle.canary_tables_rows.specs.declared.rows.RunRow.{RunRow}
use Rattle.canary_tables_rows.specs.Tables.{Tables, is_caller, is_kept, is_run, is_measurement_of, is_line_of}
use Rattle.canary_tables_contents.specs.Values.{caller_row, kept_row, receipt_of_row, service_row, made_from, run_row, run_of_row, measurement_row, measurement_of_row, history_row, line_of_row}
use Rattle.canary_tables_contents.specs.Tables.{row_if, kept_rows, run_rows, AreRows, IsReadable, IsReadableCommand, IsReadableRun, IsReadableMeasurement, IsReadableLine, IsReadablePast}
use Rattle.canary_tables_contents.specs.Reading.{receipts_to, callers_of, map_of, known_in, measurements_in, history_in, runs_to, past_in as past_read, service_from, service_made, service_of_row, services_of, contents_of}
use Rattle.canary_tables_contents.proofs.Keys.{at_key, same_texts, optional, take-more}
use Rattle.canary_tables_contents.proofs.RowsBack.{receipt_back, stand_back, run_back, measurement_back, line_back, all_at, all_back}
use Rattle.canary_tables_contents.proofs.RevisionsBack.{templates_back}
use Rattle.canary_tables_contents.proofs.BindingsBack.{bound_back, analysis_back}

-- Maps of rows.

abbrev pub first_of : {R A : Type 0} → (R → Option A) → List R → Option A
first_of value [] = None
first_of value (row ∷ rows) = option_or (value row) (first_of value rows)

either_way : {A : Type 0} (b : Bool) (x : A) → x ≡ cond b x x
either_way true x = refl
either_way false x = refl

get-put : {A : Type 0} (m : FinMap (slice_cmp nat_cmp) A) (k : List ℕ) (o : Option A) (q : List ℕ) → get (put_some m k o) q ≡ cond (bytes_eq q k) (option_or o (get m q)) (get m q)
get-put m k None q = either_way (bytes_eq q k) (get m q)
get-put m k (Some s) q = at_key m k s q

pulled : {R A : Type 0} (value : R → Option A) (row : R) (rows : List R) (b : Bool) → cond b (option_or (value row) (first_of value rows)) (first_of value rows) ≡ first_of value (cond b (row ∷ rows) rows)
pulled value row rows true = refl
pulled value row rows false = refl

get-map : {R A : Type 0} (name : R → List ℕ) (value : R → Option A) (rows : List R) (q : List ℕ) → get (map_of name value rows) q ≡ first_of value (filter (λ row. bytes_eq q (name row)) rows)
get-map name value [] q = get-empty (slice_cmp nat_cmp) q
get-map name value (row ∷ rows) q =
    get-put (map_of name value rows) (name row) (value row) q
    ∙ ap (λ x. cond (bytes_eq q (name row)) (option_or (value row) x) x) (get-map name value rows q)
    ∙ pulled value row (filter (λ r. bytes_eq q (name r)) rows) (bytes_eq q (name row))

or_none : {A : Type 0} (o : Option A) (x : A) → o ≡ Some x → option_or o None ≡ Some x
or_none o x e = ap (λ (p : Option _). option_or p None) e

-- one row or none, which is read as its value
optional_back : {A R : Type 0} (row : A → R) (value : R → Option A) (o : Option A) → ((x : A) → o ≡ Some x → value (row x) ≡ Some x) → filter_map value (row_if row o) ≡ optional o
optional_back row value None back = refl
optional_back row value (Some x) back = λ i. cons_option (back x refl i) []

-- Callers.

first_caller : List KeptRow → List CallerRow → Option (List Receipt)
first_caller kept [] = None
first_caller kept (row ∷ rows) = Some (receipts_to kept row.name row.settled)

caller_pulled : (kept : List KeptRow) (row : CallerRow) (rows : List CallerRow) (b : Bool) → cond b (Some (receipts_to kept row.name row.settled)) (first_caller kept rows) ≡ first_caller kept (cond b (row ∷ rows) rows)
unfolding first_caller
caller_pulled kept row rows true = refl
caller_pulled kept row rows false = refl

get-callers : (kept : List KeptRow) (rows : List CallerRow) (q : List ℕ) → get (callers_of kept rows) q ≡ first_caller kept (filter (is_caller q) rows)
unfolding first_caller
get-callers kept [] q = get-empty (slice_cmp nat_cmp) q
get-callers kept (row ∷ rows) q =
    let v : List Receipt = receipts_to kept row.name row.settled in
    at_key (callers_of kept rows) row.name v q
    ∙ ap (cond (bytes_eq q row.name) (Some v)) (get-callers kept rows q)
    ∙ caller_pulled kept row (filter (is_caller q) rows) (bytes_eq q row.name)

-- a receipt that is read back, and of no conflict
record IsGood (r : Receipt) : Type 0 where
  readable : IsReadableCommand r.command
  settled : IsSettledStatus r.reply.status

receipts-to : (kept : List KeptRow) (q : List ℕ) (rs : List Receipt) → ((number : ℕ) → filter (is_kept q number) kept ≡ kept_rows q number rs)
    → ((place : ℕ) (r : Receipt) → slice_get rs place ≡ Some r → IsGood r) → (n : ℕ) → receipts_to kept q n ≡ take n rs
receipts-to kept q rs rows good zero = refl
receipts-to kept q rs rows good (suc n) =
    let one : filter_map receipt_of_row (filter (is_kept q (suc n)) kept) ≡ optional (slice_get rs n) = ap (filter_map receipt_of_row) (rows (suc n))
    ∙ optional_back (kept_row q (suc n)) receipt_of_row (slice_get rs n) (λ r e. receipt_back q (suc n) r (good n r e).readable (good n r e).settled) in
    (λ i. receipts-to kept q rs rows good n i ++ one i) ∙ take-more n rs

caller_is : (kept : List KeptRow) (q : List ℕ) (o : Option (List Receipt)) → ((number : ℕ) → filter (is_kept q number) kept ≡ kept_rows q number (unwrap_or o []))
    → ((place : ℕ) (r : Receipt) → slice_get (unwrap_or o []) place ≡ Some r → IsGood r) → first_caller kept (row_if (λ receipts. caller_row q (length receipts)) o) ≡ o
unfolding first_caller
caller_is kept q None rows good = refl
caller_is kept q (Some rs) rows good = ap Some (receipts-to kept q rs rows good (length rs) ∙ take-length rs)

-- Services.

runs-to : (t : Tables) (q : List ℕ) (templates : RevisionMap) (s : ModelService) (strategy : CheckedStrategy) → ((number : ℕ) → filter (is_run q number) t.runs ≡ run_rows q number s.past.runs)
    → AllByRecursion (IsRun templates s) s.past.runs → AllByRecursion IsReadableRun s.past.runs
    → ((place : ℕ) (r : Run) → slice_get s.past.runs place ≡ Some r → IsRun templates s r → analysis_or_none (bound_of (known_in t q (suc place)) strategy) r.step ≡ r.analysis)
    → (n : ℕ) → runs_to t strategy s.past.measurements q n ≡ take n s.past.runs
runs-to t q templates s strategy are runs readable bound zero = refl
runs-to t q templates s strategy are runs readable bound (suc n) =
    let value : RunRow → Option Run = run_of_row strategy (known_in t q (suc n)) s.past.measurements in
    let one : filter_map value (filter (is_run q (suc n)) t.runs) ≡ optional (slice_get s.past.runs n) = ap (filter_map value) (are (suc n))
    ∙ optional_back (run_row q) value (slice_get s.past.runs n) (λ r e.
    let is : IsRun templates s r = all_at (IsRun templates s) s.past.runs runs n r e in
    run_back q templates s strategy (known_in t q (suc n)) r is (all_at IsReadableRun s.past.runs readable n r e) (bound n r e is)) in
    (λ i. runs-to t q templates s strategy are runs readable bound n i ++ one i) ∙ take-more n s.past.runs

-- a service's rows
record HasRows (t : Tables) (q : List ℕ) (p : Past) : Type 0 where
  runs : (number : ℕ) → filter (is_run q number) t.runs ≡ run_rows q number p.runs
  measurements : filter (is_measurement_of q) t.measurements ≡ map (measurement_row q) p.measurements
  history : filter (is_line_of q) t.history ≡ map (history_row q) p.history

-- and what it and its runs are bound to
record IsBoundBack (templates : RevisionMap) (t : Tables) (q : List ℕ) (s : ModelService) : Type 0 where
  bound : s.service.bound ≡ bound_of (known_in t q 0) (strategy_of s.made)
  runs : (place : ℕ) (r : Run) → slice_get s.past.runs place ≡ Some r → IsRun templates s r → analysis_or_none (bound_of (known_in t q (suc place)) (strategy_of s.made)) r.step ≡ r.analysis

past_back : (templates : RevisionMap) (t : Tables) (q : List ℕ) (s : ModelService) → HasRows t q s.past → IsReadablePast s.past → IsInOrder templates q s → IsBoundBack templates t q s → past_read t q (strategy_of s.made) (length s.past.runs) ≡ s.past
past_back templates t q s rows readable is bound =
    let strategy : CheckedStrategy = strategy_of s.made in
    let measurements : measurements_in t.measurements q ≡ s.past.measurements = ap (filter_map measurement_of_row) rows.measurements
    ∙ all_back (measurement_row q) measurement_of_row IsReadableMeasurement (measurement_back q) s.past.measurements readable.measurements in
    let history : history_in t.history q ≡ s.past.history = ap (filter_map line_of_row) rows.history ∙ all_back (history_row q) line_of_row IsReadableLine (line_back q) s.past.history readable.history in
    let runs : runs_to t strategy s.past.measurements q (length s.past.runs) ≡ s.past.runs = runs-to t q templates s strategy rows.runs is.runs readable.runs bound.runs (length s.past.runs) ∙ take-length s.past.runs in
    (λ i. record { runs = runs_to t strategy (measurements i) q (length s.past.runs); measurements = measurements i; history = history i }) ∙ (λ i. record s.past { runs = runs i })

service_back : (templates : RevisionMap) (t : Tables) (q : List ℕ) (s : ModelService) → HasRows t q s.past → IsReadableCommand (command.Service s.made) → IsReadablePast s.past → IsInOrder templates q s → IsBoundBack templates t q s
    → service_of_row t (service_row q s) ≡ Some s
service_back templates t q s rows readable past is bound =
    let strategy : CheckedStrategy = strategy_of s.made in
    let row : ServiceRow = service_row q s in
    ap (λ (o : Option Command). option_and_then (service_made t row) (made_from o)) readable
    ∙ ap (service_from t row s.made) (stand_back q strategy (bound_of (known_in t q 0) strategy) s.service (length s.past.runs) is.shown is.strategy bound.bound)
    ∙ (λ i. Some (record s { past = past_back templates t q s rows past is bound i }))

service_is : (templates : RevisionMap) (t : Tables) (q : List ℕ) (o : Option ModelService) → HasRows t q (past_in o) → ((s : ModelService) → o ≡ Some s → IsReadableCommand (command.Service s.made)) → IsReadablePast (past_in o)
    → ((s : ModelService) → o ≡ Some s → IsInOrder templates q s) → ((s : ModelService) → o ≡ Some s → IsBoundBack templates t q s) → first_of (service_of_row t) (row_if (service_row q) o) ≡ o
service_is templates t q None rows readable past is bound = refl
service_is templates t q (Some s) rows readable past is bound = or_none _ s (service_back templates t q s rows (readable s refl) past (is s refl) (bound s refl))

-- All.

pub at_number : (c : Contents) (q : List ℕ) (place : ℕ) → receipt_at c q (suc place) ≡ slice_get (receipts_of c q) place
at_number c q place = ap (slice_get (receipts_of c q)) (let e : suc place - 1 ≡ place = omega arith in e)

callers_back : (t : Tables) (c : Contents) → AreRows t c → IsReadable c → AreContents c → callers_of t.kept t.callers ≡ c.callers
callers_back t c are readable lawful =
    same_texts _ _ (λ q. get-callers t.kept t.callers q ∙ ap (first_caller t.kept) (are.callers q)
    ∙ caller_is t.kept q (get c.callers q) (are.kept q) (λ place r e. record { readable = readable.receipts q (suc place) r (at_number c q place ∙ e); settled = lawful.statuses q (suc place) r (at_number c q place ∙ e) }))

services_back : (t : Tables) (c : Contents) → AreRows t c → IsReadable c → AreContents c → services_of t ≡ c.desk.services
services_back t c are readable lawful =
    same_texts _ _ (λ q. get-map (λ (row : ServiceRow). row.name) (service_of_row t) t.services q ∙ ap (first_of (service_of_row t)) (are.services q)
    ∙ service_is c.desk.templates t q (get c.desk.services q) (record { runs = are.runs q; measurements = are.measurements q; history = are.history q }) (readable.made q) (readable.pasts q) (lawful.desk.services q)
    (λ s e. record { bound = bound_back t c are readable lawful q s e; runs = analysis_back t c are readable lawful q s e }))

pub reads_back : (t : Tables) (c : Contents) → AreRows t c → IsReadable c → AreContents c → contents_of t ≡ c
reads_back t c are readable lawful =
    λ i. record { callers = callers_back t c are readable lawful i; desk = record { templates = templates_back t c are readable lawful i; services = services_back t c are readable lawful i } }
