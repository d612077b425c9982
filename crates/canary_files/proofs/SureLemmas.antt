-- In contents in order each measurement has its run and its metric.
use Rattle.std.proofs.Common.{◌≡◌, ◌∙◌, ◌⊎◌, ℕ, zero, suc, ◌+◌, ◌≤◌, ◌<◌, Bool, true, false, cond, List, [], ◌∷◌, length, take, drop, inl, inr, refl, sym, ap, subst, arith, true≢false}
use Rattle.std.specs.Prelude.{◌==◌, ◌&&◌, ◌||◌, nat_lt, Option, Some, None, option_map, slice_get, find, Result, IfErr}
use Rattle.std.specs.FinMap.{get}
use Rattle.std.specs.List.{AllByRecursion, list_any, list_all}
use Rattle.std.proofs.lemmas.Bool.{eqb-true, false≢true}
use Rattle.std.proofs.lemmas.Bool.Decides.{nat_tests}
use Rattle.std.proofs.lemmas.Option.{same_Some}
use Rattle.canary_metric.specs.Metrics.{MetricValue}
use Rattle.canary_release.specs.declared.effect.Recorded.{Recorded}
use Rattle.canary_release.specs.Pasts.{Run}
use Rattle.canary_release.specs.Parts.{is_broken}
use Rattle.canary_release.specs.Desks.{ModelService, RevisionMap}
use Rattle.canary_release.specs.Stored.{stored_form}
use Rattle.canary_release.specs.Order.{AreNumbered, IsRun, IsInOrder, is_measured_by, is_of_some}
use Rattle.canary_once.specs.declared.book.BookFault.{BookFault}
use Rattle.canary_once.specs.declared.book.BookFault.TheVariants.{Memory as Out, Storage as Failed}
use Rattle.canary_once.specs.Contents.{Contents}
use Rattle.canary_once.specs.Sound.{AreContents}
use Rattle.canary_once.specs.BookCalls.{BookState, IsFault}
use Rattle.canary_once.specs.Records.{past_in, past_of, is_numbered, record_of, measurements_of}
use Rattle.canary_files.specs.declared.export.ExportFault.{ExportFault}
use Rattle.canary_files.specs.Exporting.{IsExportFault, fault_of, IsPlaced, ArePlaced}

pub sure_book : (sure : Bool) (f : BookFault) → IsFault sure f → IsExportFault sure (fault_of f)
sure_book sure Out h = tt
sure_book true Failed h = absurd h
sure_book false Failed h = tt

-- ---- tests

or_true : (a b : Bool) → (a || b) ≡ true → (a ≡ true) ⊎ (b ≡ true)
or_true true b e = inl refl
or_true false b e = inr e

or_false : (a b : Bool) → (a || b) ≡ false → (a ≡ false) × (b ≡ false)
or_false true b e = absurd (true≢false e)
or_false false b e = (refl, e)

pub both : (a b : Bool) → (a && b) ≡ true → (a ≡ true) × (b ≡ true)
both true b e = (refl, e)
both false b e = absurd (false≢true e)

third : (a b c d : Bool) → (a || (b || (c || d))) ≡ false → c ≡ false
third a b c d e = (or_false c d (or_false b (c || d) (or_false a (b || (c || d)) e).1).1).0

element : {X : Type 0} (xs : List X) (i : ℕ) → i < length xs → (x : X) × (slice_get xs i ≡ Some x)
element [] i h = absurd (omega arith)
element (x ∷ xs) zero h = (x, refl)
element (x ∷ xs) (suc i) h = element xs i (omega arith)

all_drop : {X : Type 0} (P : X → Type 0) (n : ℕ) (xs : List X) → AllByRecursion P xs → AllByRecursion P (drop n xs)
all_drop P zero xs h = h
all_drop P (suc n) [] h = tt
all_drop P (suc n) (x ∷ xs) h = all_drop P n xs h.1

all_take : {X : Type 0} (P : X → Type 0) (n : ℕ) (xs : List X) → AllByRecursion P xs → AllByRecursion P (take n xs)
all_take P zero xs h = tt
all_take P (suc n) [] h = tt
all_take P (suc n) (x ∷ xs) h = (h.0, all_take P n xs h.1)

-- ---- runs

measured_from : (n : ℕ) (runs : List Run) (x : Recorded) → AreNumbered n runs → list_any (is_measured_by x) runs ≡ true → n ≤ x.run
measured_from n [] x a e = absurd (false≢true e)
measured_from n (r ∷ rs) x a e =
    elim (or_true (is_measured_by x r) (list_any (is_measured_by x) rs) e) as (λ _. n ≤ x.run) [
      | inl t ↦ (let same : x.run ≡ r.number = eqb-true x.run r.number (both (x.run == r.number) (nat_lt x.metric (length r.lists)) t).0 in let first : r.number ≡ n = a.0 in omega (arith, same, first))
      | inr t ↦ (let later : suc n ≤ x.run = measured_from (suc n) rs x a.1 t in omega (arith, later))
    ]

-- the run of a measurement is found by its number
pub record Found (templates : RevisionMap) (s : ModelService) (n : ℕ) (runs : List Run) (x : Recorded) : Type 0 where
  pub run : Run
  pub found : find (is_numbered x.run) runs ≡ Some run
  pub same : x.run ≡ run.number
  pub is : IsRun templates s run
  pub metric : nat_lt x.metric (length run.lists) ≡ true
  pub last : x.run < n + length runs

pub found_run : (templates : RevisionMap) (s : ModelService) (n : ℕ) (runs : List Run) (x : Recorded) → AreNumbered n runs → AllByRecursion (IsRun templates s) runs → list_any (is_measured_by x) runs ≡ true → Found templates s n runs x
found_run templates s n [] x a i e = absurd (false≢true e)
found_run templates s n (r ∷ rs) x a i e =
    let next : Bool → Option Run = λ b. cond b (Some r) (find (is_numbered x.run) rs) in
    let first : r.number ≡ n = a.0 in
    elim (or_true (is_measured_by x r) (list_any (is_measured_by x) rs) e) as (λ _. Found templates s n (r ∷ rs) x) [
      | inl t ↦ (
          let p = both (x.run == r.number) (nat_lt x.metric (length r.lists)) t in
          let same : x.run ≡ r.number = eqb-true x.run r.number p.0 in
          let is : (r.number == x.run) ≡ true = grind (arith, nat_tests, same) in
          record { run = r; found = ap next is; same = same; is = i.0; metric = p.1; last = omega (arith, same, first) }
          )
      | inr t ↦ (
          let rest = found_run templates s (suc n) rs x a.1 i.1 t in
          let later : suc n ≤ x.run = measured_from (suc n) rs x a.1 t in
          let other : (r.number == x.run) ≡ false = grind (arith, nat_tests, later, first) in
          let within : x.run < suc n + length rs = rest.last in
          record { run = rest.run; found = ap next other ∙ rest.found; same = rest.same; is = rest.is; metric = rest.metric; last = omega (arith, within) }
          )
    ]

few : (n : ℕ) → nat_lt 1000000 n ≡ false → n ≤ 1000000
few n e = grind (arith, nat_tests, e)

few_runs : (m : ModelService) → is_broken (stored_form m) ≡ false → length m.past.runs ≤ 1000000
few_runs m e = few (length m.past.runs) (third _ _ _ _ e)

-- ---- measurements

pub placed_one : (templates : RevisionMap) (name : List ℕ) (m : ModelService) → IsInOrder templates name m → (x : Recorded) → is_of_some m.past.runs x ≡ true → IsPlaced m.past x
placed_one templates name m o x e =
    let f = found_run templates m 1 m.past.runs x o.numbered o.runs e in
    let r : Run = f.run in
    let few : length m.past.runs ≤ 1000000 = few_runs m o.parts in
    let high : x.run < 1 + length m.past.runs = f.last in
    let metric : nat_lt x.metric (length r.lists) ≡ true = f.metric in
    let here : x.metric < length r.lists = grind (arith, nat_tests, metric) in
    let each : length r.lists ≡ length r.analysis.metrics = f.is.one_each in
    let found = element r.analysis.metrics x.metric (omega (arith, here, each)) in
    record {
      run = record { low = measured_from 1 m.past.runs x o.numbered e; high = omega (arith, high, few); kept = record_of r; found = ap (option_map record_of) f.found };
      name = found.0.name;
      named = ap (option_map (λ (y : MetricValue). y.name)) found.1;
    }

placed_all : (templates : RevisionMap) (name : List ℕ) (m : ModelService) → IsInOrder templates name m → (xs : List Recorded) → list_all (is_of_some m.past.runs) xs ≡ true → ArePlaced m.past xs
placed_all templates name m o [] e = tt
placed_all templates name m o (x ∷ xs) e =
    let p = both (is_of_some m.past.runs x) (list_all (is_of_some m.past.runs) xs) e in
    (placed_one templates name m o x p.0, placed_all templates name m o xs p.1)

placed_by : (templates : RevisionMap) (name : List ℕ) (found : Option ModelService) → ((m : ModelService) → found ≡ Some m → IsInOrder templates name m)
    → ArePlaced (past_in found) (past_in found).measurements
placed_by templates name None order = tt
placed_by templates name (Some m) order = let o = order m refl in placed_all templates name m o m.past.measurements o.measured

-- each measurement of a page
pub page_placed : (c : Contents) (service : List ℕ) (from most : ℕ) → AreContents c → ArePlaced (past_of c service) (measurements_of c service from most)
page_placed c service from most lawful =
    let all : List Recorded = (past_of c service).measurements in
    let P : Recorded → Type 0 = IsPlaced (past_of c service) in
    all_take P most (drop from all) (all_drop P from all (placed_by c.desk.templates service (get c.desk.services service) (lawful.desk.services service)))

-- a page that a sure book gave is written, or it is not for the store
pub page_sure : {A : Type 0} (a b d : BookState) (service : List ℕ) (from most : ℕ) (page : List Recorded) (r : Result A ExportFault)
    → (d.is_honest → b.is_honest) → (b.is_honest → AreContents a.contents) → (b.is_honest → b.contents ≡ a.contents) → b.is_sure ≡ a.is_sure
    → (b.is_honest → page ≡ measurements_of a.contents service from most)
    → (d.is_honest → ArePlaced (past_of b.contents service) page → IfErr r (IsExportFault b.is_sure))
    → d.is_honest → IfErr r (IsExportFault a.is_sure)
page_sure a b d service from most page r honest lawful same sure found told h =
    let kept = honest h in
    let P : Contents → Type 0 = λ c. ArePlaced (past_of c service) (measurements_of a.contents service from most) in
    let Q : List Recorded → Type 0 = λ xs. ArePlaced (past_of b.contents service) xs in
    let R : Bool → Type 0 = λ s. IfErr r (IsExportFault s) in
    subst R sure (told h (subst Q (sym (found kept)) (subst P (sym (same kept)) (page_placed a.contents service from most (lawful kept)))))
