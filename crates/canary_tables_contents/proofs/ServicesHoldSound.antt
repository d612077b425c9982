-- A service that is judged is in order, and its runs are sound.
use Rattle.std.proofs.Common.{◌≡◌, ℕ, zero, suc, ◌+◌, ◌≤◌, ◌<◌, ◌==◌, List, [], ◌∷◌, length, Bool, true, false, Some, None, refl, sym, ap, ◌∙◌, subst, arith}
use Rattle.std.specs.Prelude.{Option, ◌&&◌, ◌||◌, cond, filter, map, nat_lt, option_map, slice_get}
use Rattle.std.specs.List.{AllByRecursion, list_all, list_any, zip}
use Rattle.std.proofs.lemmas.Bool.{lt-ltb}
use Rattle.std.proofs.lemmas.Bool.Decides.{Decides-eqb}
use Rattle.std.proofs.lemmas.List.{length-map}
use Rattle.std.proofs.lemmas.Option.{slice_get-map}
use Rattle.canary_metric.specs.Metrics.{MetricValue}
use Rattle.canary_metric.specs.Counts.{Counts, counts}
use Rattle.canary_metric.specs.Verdicts.{verdict_of_counts}
use Rattle.canary_plan.specs.declared.strategy.CheckedStrategy.{CheckedStrategy}
use Rattle.canary_plan.specs.Plans.{strategy_of, bound_of, analysis_at}
use Rattle.canary_release.specs.declared.effect.Recorded.{Recorded}
use Rattle.canary_release.specs.declared.effect.Closing.{Closing}
use Rattle.canary_release.specs.declared.runs.Runs.{Runs}
use Rattle.canary_release.specs.Order.{AreNumbered, AreOrdered, AreLists, is_of, IsRun, is_measured_by, is_of_some, IsInOrder}
use Rattle.canary_release.specs.Parts.{is_broken}
use Rattle.canary_release.specs.Pasts.{Run, measurement_of, counts_of, is_open, tallied, tracked}
use Rattle.canary_release.specs.Desks.{ModelService, RevisionMap}
use Rattle.canary_release.specs.Sound.{IsJudgedBy, AreJudged, HasVerdict, IsSoundRun}
use Rattle.canary_once.specs.declared.record.RunRecord.{RunRecord}
use Rattle.canary_tables_rows.specs.declared.rows.ServiceRow.{ServiceRow}
use Rattle.canary_tables_rows.specs.Tables.{Tables}
use Rattle.canary_tables_contents.specs.Values.{lists_in}
use Rattle.canary_tables_contents.specs.Reading.{contents_of}
use Rattle.canary_tables_contents.specs.Tables.{IsReadableClosing, IsReadableRun, IsReadablePast}
use Rattle.canary_tables_contents.specs.Counting.{at_metric, of_metric, IsOfMetric, IsList, CountingIsExact, RunsAreTallied}
use Rattle.canary_tables_contents.specs.Judged.{HoldTemplates}
use Rattle.canary_tables_contents.specs.Services.{HasVerdictBy, is_open_record, open_of_record, open_runs_in, metrics_of_runs, IsServiceJudged}
use Rattle.canary_tables_contents.proofs.CallersJudged.{HasPlace, has_place, below_length}
use Rattle.canary_tables_contents.proofs.Named.{weaker}
use Rattle.canary_tables_contents.proofs.KnownRows.{binding_in, known_same}
use Rattle.canary_tables_contents.proofs.ServicesHoldRows.{run_made, service_judged, bound_by, IsStanding, standing_judged}
use Rattle.canary_tables_contents.proofs.ServicesHoldFacts.{IsRunOf, are_listed, run_of_judged}
use Rattle.canary_tables_contents.proofs.ServicesHoldLists.{measurements_under}

-- Runs one after another, the first of these having this number.

abbrev AreRunsOf : (ℕ → RunRecord → Type 0) → ℕ → List RunRecord → Type 0
AreRunsOf P number [] = Unit {0}
AreRunsOf P number (r ∷ rs) = P number r × AreRunsOf P (suc number) rs

in_turn : (P : ℕ → RunRecord → Type 0) (first : ℕ) (runs : List RunRecord) → ((place : ℕ) (r : RunRecord) → slice_get runs place ≡ Some r → P (first + place) r) → AreRunsOf P first runs
in_turn P first [] each = tt
in_turn P first (r ∷ rs) each = (
  subst (λ n. P n r) (let e : first + 0 ≡ first = omega arith in e) (each 0 r refl),
  in_turn P (suc first) rs (λ place x there. subst (λ n. P n x) (let e : first + suc place ≡ suc first + place = omega arith in e) (each (suc place) x there)),
)

abbrev IsRunIn : (t : Tables) (row : ServiceRow) → IsServiceJudged t row → ℕ → RunRecord → Type 0
IsRunIn t row j = IsRunOf t (strategy_of j.made) row.name j.measurements

runs_of_judged : CountingIsExact → RunsAreTallied → (t : Tables) (row : ServiceRow) (j : IsServiceJudged t row) → AreRunsOf (IsRunIn t row j) 1 j.runs
runs_of_judged exact tallied t row j =
    in_turn (IsRunIn t row j) 1 j.runs (λ place r there. subst (λ n. IsRunIn t row j n r) (let e : suc place ≡ 1 + place = omega arith in e) (run_of_judged exact tallied t row j place r there))

-- what holds of each run holds of all that are made of them
each_made : (P : ℕ → RunRecord → Type 0) (xs : List Recorded) (Q : Run → Type 0) → ((number : ℕ) (r : RunRecord) → P number r → Q (run_made xs r)) → (first : ℕ) (runs : List RunRecord) → AreRunsOf P first runs
    → AllByRecursion Q (map (run_made xs) runs)
each_made P xs Q so first [] all = tt
each_made P xs Q so first (r ∷ rs) all = (so first r all.0, each_made P xs Q so (suc first) rs all.1)

numbered_from : (P : ℕ → RunRecord → Type 0) (xs : List Recorded) → ((number : ℕ) (r : RunRecord) → P number r → r.number ≡ number) → (first : ℕ) (runs : List RunRecord) → AreRunsOf P first runs → AreNumbered first (map (run_made xs) runs)
numbered_from P xs is first [] all = tt
numbered_from P xs is first (r ∷ rs) all = (is first r all.0, numbered_from P xs is (suc first) rs all.1)

-- Lists of a run.

are_lists : (xs : List Recorded) (run k n : ℕ) → ((place : ℕ) → place < n → AreOrdered run (k + place) 1 (filter (is_of run (k + place)) xs) × (length (filter (is_of run (k + place)) xs) ≤ 1000000))
    → AreLists xs run k (lists_in xs run k n)
are_lists xs run k zero each = tt
are_lists xs run k (suc n) each =
    let here : k + 0 ≡ k = omega arith in
    let first : AreOrdered run k 1 (filter (is_of run k) xs) × (length (filter (is_of run k) xs) ≤ 1000000) =
    subst (λ m. AreOrdered run m 1 (filter (is_of run m) xs) × (length (filter (is_of run m) xs) ≤ 1000000)) here (each 0 (omega arith)) in
    let rest : AreLists xs run (suc k) (lists_in xs run (suc k) n) = are_lists xs run (suc k) n (λ place below.
    subst (λ m. AreOrdered run m 1 (filter (is_of run m) xs) × (length (filter (is_of run m) xs) ≤ 1000000)) (let e : k + suc place ≡ suc k + place = omega arith in e) (each (suc place) (omega arith))) in
    (first.0, first.1, refl, rest)

so_many : (xs : List Recorded) (run k n : ℕ) → length (lists_in xs run k n) ≡ n
so_many xs run k zero = refl
so_many xs run k (suc n) = ap suc (so_many xs run (suc k) n)

is_run : (t : Tables) → HoldTemplates t → (strategy : CheckedStrategy) (name : List ℕ) (s : ModelService) (xs : List Recorded) → s.service.strategy ≡ strategy → s.past.measurements ≡ xs → (number : ℕ) (r : RunRecord) → IsRunOf t strategy name xs number r
    → IsRun (contents_of t).desk.templates s (run_made xs r)
is_run t hold strategy name s xs to measured number r of =
    let metrics : List MetricValue = r.analysis.metrics in
    let templates : RevisionMap = (contents_of t).desk.templates in
    let binding : List ℕ → Option ℕ = binding_in t name r.number in
    let lists : AreLists xs r.number 0 (lists_in xs r.number 0 (length metrics)) = are_lists xs r.number 0 (length metrics) (λ place below.
    let h : HasPlace metrics place = has_place metrics place below in
    let l : IsList r.number place h.value (filter (is_of r.number place) xs) = of.lists place h.value h.there in
    subst (λ m. AreOrdered r.number m 1 (filter (is_of r.number m) xs) × (length (filter (is_of r.number m) xs) ≤ 1000000)) (let e : place ≡ 0 + place = omega arith in e) (l.ordered, l.few)) in
    record {
      binding = binding;
      analysis = (λ i. analysis_at (bound_of (sym (known_same t hold name r.number) i) (to i)) r.step) ∙ of.judged.analysis;
      one_each = so_many xs r.number 0 (length metrics);
      lists = subst (λ ys. AreLists ys r.number 0 (lists_in xs r.number 0 (length metrics))) (sym measured) lists;
    }

-- Verdicts.

are_judged : (xs : List Recorded) (run k : ℕ) (metrics : List MetricValue) → ((place : ℕ) (metric : MetricValue) → slice_get metrics place ≡ Some metric → AllByRecursion (IsJudgedBy metric) (filter (is_of run (k + place)) xs))
    → AreJudged metrics (lists_in xs run k (length metrics))
are_judged xs run k [] each = tt
are_judged xs run k (metric ∷ metrics) each = (
  subst (λ m. AllByRecursion (IsJudgedBy metric) (filter (is_of run m) xs)) (let e : k + 0 ≡ k = omega arith in e) (each 0 metric refl),
  are_judged xs run (suc k) metrics (λ place v there. subst (λ m. AllByRecursion (IsJudgedBy v) (filter (is_of run m) xs)) (let e : k + suc place ≡ suc k + place = omega arith in e) (each (suc place) v there)),
)

counted_twice : (lists : List (List Recorded)) → map counts (map (map measurement_of) lists) ≡ map counts_of lists
counted_twice [] = refl
counted_twice (list ∷ lists) = ap (λ (cs : List Counts). counts_of list ∷ cs) (counted_twice lists)

has_verdict : (run : Run) (tallies : List Counts) (o : Option Closing) → map counts_of run.lists ≡ tallies → IsReadableClosing run.number o → HasVerdictBy run.analysis.metrics tallies o → HasVerdict run o
has_verdict run tallies None same closed v = ap (λ (ts : List Counts). verdict_of_counts false (zip run.analysis.metrics ts)) (counted_twice run.lists ∙ same) ∙ v
has_verdict run tallies (Some x) same closed v = (
  closed.0,
  v.0 ∙ ap (λ (ts : List Counts). verdict_of_counts x.outside (zip run.analysis.metrics ts)) (sym (counted_twice run.lists ∙ same)),
  v.1,
)

is_sound_run : (t : Tables) (strategy : CheckedStrategy) (name : List ℕ) (xs : List Recorded) (number : ℕ) (r : RunRecord) → IsRunOf t strategy name xs number r → IsSoundRun (run_made xs r)
is_sound_run t strategy name xs number r of = (
  are_judged xs r.number 0 r.analysis.metrics (λ place metric there.
      subst (λ m. AllByRecursion (IsJudgedBy metric) (filter (is_of r.number m) xs)) (let e : place ≡ 0 + place = omega arith in e) (of.lists place metric there).judged),
  has_verdict (run_made xs r) r.tallies r.closed of.tallied of.judged.closed of.judged.verdict,
)

pub runs_sound : CountingIsExact → RunsAreTallied → (t : Tables) (row : ServiceRow) (j : IsServiceJudged t row) → AllByRecursion IsSoundRun (service_judged j).past.runs
runs_sound exact tallied t row j =
    each_made (IsRunIn t row j) j.measurements IsSoundRun (λ number r of. is_sound_run t (strategy_of j.made) row.name j.measurements number r of) 1 j.runs (runs_of_judged exact tallied t row j)

-- What is read back.

pub past_readable : CountingIsExact → RunsAreTallied → (t : Tables) (row : ServiceRow) (j : IsServiceJudged t row) → IsReadablePast (service_judged j).past
past_readable exact tallied t row j = record {
  runs = each_made (IsRunIn t row j) j.measurements IsReadableRun (λ number r of. of.judged.closed) 1 j.runs (runs_of_judged exact tallied t row j);
  measurements = (measurements_under t row j).1;
  history = j.lines;
}

-- Measurements are of runs.

either : (a b : Bool) → b ≡ true → a || b ≡ true
either true b e = refl
either false b e = e

some_passes : {X : Type 0} (p : X → Bool) (xs : List X) (place : ℕ) (x : X) → slice_get xs place ≡ Some x → p x ≡ true → list_any p xs ≡ true
some_passes p [] place x there e = absurd (cc)
some_passes p (y ∷ ys) zero x there e =
    let same : y ≡ x = cc there in
    ap (λ b. b || list_any p ys) (ap p same ∙ e)
some_passes p (y ∷ ys) (suc place) x there e = either (p y) (list_any p ys) (some_passes p ys place x there e)

all_pass : {X : Type 0} (p : X → Bool) (xs : List X) → AllByRecursion (λ x. p x ≡ true) xs → list_all p xs ≡ true
all_pass p [] all = refl
all_pass p (x ∷ xs) all = λ i. all.0 i && all_pass p xs all.1 i

abbrev metrics_of : RunRecord → List MetricValue
metrics_of r = r.analysis.metrics

measured_at : (xs : List Recorded) (runs : List RunRecord) (place : ℕ) (x : Recorded) (metric : MetricValue) (o : Option RunRecord) → slice_get runs place ≡ o → x.run ≡ suc place
    → ((r : RunRecord) → slice_get runs place ≡ Some r → r.number ≡ suc place) → at_metric x.metric (option_map metrics_of o) ≡ Some metric
    → is_of_some (map (run_made xs) runs) x ≡ true
measured_at xs runs place x metric None there run numbered planned = absurd (cc)
measured_at xs runs place x metric (Some r) there run numbered planned =
    let made : Run = run_made xs r in
    let many : length made.lists ≡ length r.analysis.metrics = so_many xs r.number 0 (length r.analysis.metrics) in
    let below : x.metric < length r.analysis.metrics = below_length r.analysis.metrics x.metric metric planned in
    let own : (x.run == r.number) ≡ true = (Decides-eqb x.run r.number).1 (run ∙ sym (numbered r there)) in
    let within : nat_lt x.metric (length made.lists) ≡ true = lt-ltb x.metric (length made.lists) (omega arith) in
    some_passes (is_measured_by x) (map (run_made xs) runs) place made (slice_get-map (run_made xs) runs place ∙ ap (option_map (run_made xs)) there) (λ i. own i && within i)

measured_by : (xs : List Recorded) (runs : List RunRecord) (run : ℕ) (x : Recorded) (metric : MetricValue) → x.run ≡ run → ((place : ℕ) (r : RunRecord) → slice_get runs place ≡ Some r → r.number ≡ suc place)
    → of_metric run x.metric (metrics_of_runs runs) ≡ Some metric → is_of_some (map (run_made xs) runs) x ≡ true
measured_by xs runs zero x metric run numbered planned = absurd (cc)
measured_by xs runs (suc place) x metric run numbered planned =
    measured_at xs runs place x metric (slice_get runs place) refl run (numbered place) (ap (at_metric x.metric) (sym (slice_get-map metrics_of runs place)) ∙ planned)

all_measured : CountingIsExact → (t : Tables) (row : ServiceRow) (j : IsServiceJudged t row) → list_all (is_of_some (service_judged j).past.runs) j.measurements ≡ true
all_measured exact t row j =
    all_pass (is_of_some (service_judged j).past.runs) j.measurements
    (weaker (IsOfMetric (metrics_of_runs j.runs)) (λ x. is_of_some (service_judged j).past.runs x ≡ true) (λ x h. measured_by j.measurements j.runs x.run x h.metric refl (λ place r there. (j.each place r there).0) h.planned) j.measurements (are_listed exact t row j).placed)

-- What is tracked.

open_same : (P : ℕ → RunRecord → Type 0) (xs : List Recorded) → ((number : ℕ) (r : RunRecord) → P number r → map counts_of (run_made xs r).lists ≡ r.tallies) → (first : ℕ) (runs : List RunRecord) → AreRunsOf P first runs
    → map tallied (filter is_open (map (run_made xs) runs)) ≡ open_runs_in runs
open_same P xs is first [] all = refl
open_same P xs is first (r ∷ rs) all =
    let rest : map tallied (filter is_open (map (run_made xs) rs)) ≡ open_runs_in rs = open_same P xs is (suc first) rs all.1 in
    let one : tallied (run_made xs r) ≡ open_of_record r = λ i. record (open_of_record r) { tallies = is first r all.0 i } in
    elim (is_open_record r) as (λ b. map tallied (cond b (run_made xs r ∷ filter is_open (map (run_made xs) rs)) (filter is_open (map (run_made xs) rs))) ≡ map open_of_record (cond b (r ∷ filter is_open_record rs) (filter is_open_record rs))) [
      | true ↦ λ i. one i ∷ rest i
      | false ↦ rest
    ]

watched_same : CountingIsExact → RunsAreTallied → (t : Tables) (row : ServiceRow) (j : IsServiceJudged t row) → tracked (service_judged j).past ≡ record { count = length j.runs; open_runs = open_runs_in j.runs }
watched_same exact tallied t row j =
    let count = length-map j.runs (run_made j.measurements) in
    let open_runs = open_same (IsRunIn t row j) j.measurements (λ number r of. of.tallied) 1 j.runs (runs_of_judged exact tallied t row j) in
    λ i. record { count = count i; open_runs = open_runs i }

-- In order.

pub in_order : CountingIsExact → RunsAreTallied → (t : Tables) → HoldTemplates t → (row : ServiceRow) (j : IsServiceJudged t row) → IsInOrder (contents_of t).desk.templates row.name (service_judged j)
in_order exact tallied t hold row j =
    let strategy : CheckedStrategy = strategy_of j.made in
    let s : IsStanding row.name strategy (bound_by t row.name j.made) row.standing j.service = standing_judged t row j in
    let runs : AreRunsOf (IsRunIn t row j) 1 j.runs = runs_of_judged exact tallied t row j in
    record {
      named = j.named;
      shown = s.named;
      strategy = s.strategy;
      accepted = j.accepted;
      bound = record { binding = binding_in t row.name 0; bound = s.bound ∙ (λ i. bound_of (known_same t hold row.name 0 i) (sym s.strategy i)) };
      numbered = numbered_from (IsRunIn t row j) j.measurements (λ number r of. of.numbered) 1 j.runs runs;
      runs = each_made (IsRunIn t row j) j.measurements (IsRun (contents_of t).desk.templates (service_judged j)) (λ number r of. is_run t hold strategy row.name (service_judged j) j.measurements s.strategy refl number r of) 1 j.runs runs;
      measured = all_measured exact t row j;
      parts = subst (λ (w : Runs). is_broken (record { service = j.service; runs = w }) ≡ false) (sym (watched_same exact tallied t row j)) j.parts;
    }
