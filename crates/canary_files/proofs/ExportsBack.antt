-- Each measurement of contents in order is one that a report can bring.
use Rattle.std.proofs.Common.{◌≡◌, ◌∙◌, ℕ, zero, suc, ◌+◌, ◌≤◌, ◌<◌, Bool, true, false, cond, List, [], ◌∷◌, length, refl, sym, ap, subst, arith}
use Rattle.std.specs.Prelude.{◌==◌, ◌&&◌, nat_le, nat_lt, IsTrue, Option, Some, None, slice_get, filter}
use Rattle.std.specs.FinMap.{get}
use Rattle.std.specs.List.{list_all}
use Rattle.std.proofs.lemmas.Bool.Decides.{nat_tests}
use Rattle.std.proofs.lemmas.Option.{none-some, same_Some}
use Rattle.canary_base.specs.Names.{is_name, is_label}
use Rattle.canary_plan.specs.Limits.{is_ordinal}
use Rattle.canary_release.specs.declared.effect.Recorded.{Recorded}
use Rattle.canary_release.specs.Desks.{ModelService, RevisionMap}
use Rattle.canary_release.specs.Order.{AreOrdered, AreLists, IsInOrder, is_of, is_of_some}
use Rattle.canary_once.specs.Records.{past_in}
use Rattle.canary_files.specs.Exporting.{name_of}
use Rattle.canary_files.specs.ReadingBack.{IsReportable, HasLimits, IsReadBack, AreExportsReadBack}
use Rattle.canary_files.proofs.ReadBack.{read_back}
use Rattle.canary_files.proofs.SureLemmas.{both, found_run, placed_one}

all_at : (p : Recorded → Bool) (xs : List Recorded) (k : ℕ) (x : Recorded) → list_all p xs ≡ true → slice_get xs k ≡ Some x → p x ≡ true
all_at p [] k x a e = absurd (none-some _ e)
all_at p (y ∷ ys) zero x a e =
    let P : Recorded → Type 0 = λ z. p z ≡ true in subst P (same_Some _ _ e) (both (p y) (list_all p ys) a).0
all_at p (y ∷ ys) (suc k) x a e = all_at p ys k x (both (p y) (list_all p ys) a).1 e

-- ---- ordinals

-- those of a metric of a run
abbrev list_of : ℕ → ℕ → List Recorded → List Recorded
list_of run metric all = filter (is_of run metric) all

-- one that is listed has an ordinal of its list
ordinal_in : (run metric n : ℕ) (all : List Recorded) (k : ℕ) (x : Recorded) → AreOrdered run metric n (list_of run metric all) → slice_get all k ≡ Some x → is_of run metric x ≡ true
    → (n ≤ x.ordinal) × (x.ordinal < n + length (list_of run metric all))
ordinal_in run metric n [] k x o e is = absurd (none-some _ e)
ordinal_in run metric n (y ∷ ys) zero x o e is =
    let rest : List Recorded = list_of run metric ys in
    let P : Recorded → Type 0 = λ z. is_of run metric z ≡ true in
    let same : y ≡ x = same_Some _ _ e in
    let listed : list_of run metric (y ∷ ys) ≡ y ∷ rest = ap (λ b. cond b (y ∷ rest) rest) (subst P (sym same) is) in
    let whole : AreOrdered run metric n (y ∷ rest) = subst (AreOrdered run metric n) listed o in
    let ordinal : x.ordinal ≡ n = sym (ap (λ (z : Recorded). z.ordinal) same) ∙ whole.2 in
    let many : length (list_of run metric (y ∷ ys)) ≡ suc (length rest) = ap (λ (l : List Recorded). length l) listed in
    (omega (arith, ordinal), omega (arith, ordinal, many))
ordinal_in run metric n (y ∷ ys) (suc k) x o e is =
    let rest : List Recorded = list_of run metric ys in
    elim (is_of run metric y) as (λ b. is_of run metric y ≡ b → (n ≤ x.ordinal) × (x.ordinal < n + length (list_of run metric (y ∷ ys)))) [
      | true ↦ λ own. (
          let listed : list_of run metric (y ∷ ys) ≡ y ∷ rest = ap (λ b. cond b (y ∷ rest) rest) own in
          let whole : AreOrdered run metric n (y ∷ rest) = subst (AreOrdered run metric n) listed o in
          let many : length (list_of run metric (y ∷ ys)) ≡ suc (length rest) = ap (λ (l : List Recorded). length l) listed in
          let found = ordinal_in run metric (suc n) ys k x whole.3 e is in
          let low : suc n ≤ x.ordinal = found.0 in
          let high : x.ordinal < suc n + length rest = found.1 in
          (omega (arith, low), omega (arith, high, many))
          )
      | false ↦ λ own. (
          let listed : list_of run metric (y ∷ ys) ≡ rest = ap (λ b. cond b (y ∷ rest) rest) own in
          let many : length (list_of run metric (y ∷ ys)) ≡ length rest = ap (λ (l : List Recorded). length l) listed in
          let found = ordinal_in run metric n ys k x (subst (AreOrdered run metric n) listed o) e is in
          let high : x.ordinal < n + length rest = found.1 in
          (found.0, omega (arith, high, many))
          )
    ] refl

-- the list of a metric: in order, and no longer than 1,000,000
record IsListed (all : List Recorded) (run metric : ℕ) : Type 0 where
  ordered : AreOrdered run metric 1 (list_of run metric all)
  few : length (list_of run metric all) ≤ 1000000

list_at : (all : List Recorded) (run metric : ℕ) (lists : List (List Recorded)) (i : ℕ) → AreLists all run metric lists → i < length lists → IsListed all run (metric + i)
list_at all run metric [] i a h = absurd (omega arith)
list_at all run metric (list ∷ lists) zero a h =
    let here : metric ≡ metric + 0 = omega arith in
    let P : ℕ → Type 0 = λ m. IsListed all run m in
    let Q : List Recorded → Type 0 = λ l. length l ≤ 1000000 in
    subst P here (record { ordered = subst (AreOrdered run metric 1) a.2 a.0; few = subst Q a.2 a.1 })
list_at all run metric (list ∷ lists) (suc i) a h =
    let next : suc metric + i ≡ metric + suc i = omega arith in
    let P : ℕ → Type 0 = λ m. IsListed all run m in
    subst P next (list_at all run (suc metric) lists i a.3 (omega arith))

-- ---- measurements

limits : (n : ℕ) → 1 ≤ n → n ≤ 1000000000 → is_ordinal n ≡ true
limits n low high =
    let above : nat_le 1 n ≡ true = grind (arith, nat_tests, low) in
    let below : nat_le n 1000000000 ≡ true = grind (arith, nat_tests, high) in
    (λ i. above i && below i)

reportable : (templates : RevisionMap) (name : List ℕ) (m : ModelService) → IsInOrder templates name m → (k : ℕ) (x : Recorded) → slice_get m.past.measurements k ≡ Some x → HasLimits x → IsReportable x
reportable templates name m o k x e has =
    let all : List Recorded = m.past.measurements in
    let of : is_of_some m.past.runs x ≡ true = all_at (is_of_some m.past.runs) all k x o.measured e in
    let f = found_run templates m 1 m.past.runs x o.numbered o.runs of in
    let run : ℕ = f.run.number in
    let placed = placed_one templates name m o x of in
    let metric : nat_lt x.metric (length f.run.lists) ≡ true = f.metric in
    let here : x.metric < length f.run.lists = grind (arith, nat_tests, metric) in
    let at : 0 + x.metric ≡ x.metric = omega arith in
    let P : ℕ → Type 0 = λ n. IsListed all run n in
    let listed : IsListed all run x.metric = subst P at (list_at all run 0 f.run.lists x.metric f.is.lists here) in
    let same : x.run ≡ run = f.same in
    let of_run : (x.run == run) ≡ true = grind (arith, nat_tests, same) in
    let of_metric : (x.metric == x.metric) ≡ true = grind (arith, nat_tests) in
    let found = ordinal_in run x.metric 1 all k x listed.ordered e (λ i. of_run i && of_metric i) in
    let high : x.ordinal < 1 + length (list_of run x.metric all) = found.1 in
    let few : length (list_of run x.metric all) ≤ 1000000 = listed.few in
    record {
      run = ap (λ b. b && true) (limits x.run placed.run.low placed.run.high);
      ordinal = limits x.ordinal found.0 (omega (arith, high, few));
      taken = has.taken;
      outcome = has.outcome;
    }

back_by : (templates : RevisionMap) (found : Option ModelService) (caller service : List ℕ) (k : ℕ) (x : Recorded) → ((m : ModelService) → found ≡ Some m → IsInOrder templates service m)
    → slice_get (past_in found).measurements k ≡ Some x → k < 1000000000 → HasLimits x → IsTrue (is_name caller) → IsTrue (is_name service) → IsTrue (is_label (name_of (past_in found) x))
    → IsReadBack caller service (name_of (past_in found) x) (suc k) x
back_by templates None caller service k x order e few has caller_named named label = absurd (none-some _ e)
back_by templates (Some m) caller service k x order e few has caller_named named label =
    let is : IsReportable x = reportable templates service m (order m refl) k x e has in
    record { is = is; reads = read_back caller service (name_of m.past x) (suc k) x is caller_named named label (limits (suc k) (omega arith) (omega (arith, few))) }

pub exports_back : AreExportsReadBack
exports_back c caller service k x lawful = back_by c.desk.templates (get c.desk.services service) caller service k x (lawful.desk.services service)
