-- The measurements of a service of contents are counted one after another, and come to the tallies of its runs.
use Rattle.std.proofs.Common.{◌≡◌, inl, inr, ℕ, zero, suc, ◌+◌, ◌≤◌, ◌<◌, List, [], ◌∷◌, length, Bool, true, false, Some, None, refl, sym, ap, ◌∙◌, subst, arith}
use Rattle.std.proofs.lemmas.Bool.Decides.{Decides-eqb, nat_tests}
use Rattle.std.proofs.lemmas.Option.{slice_get-map}
use Rattle.std.specs.Prelude.{Option, ◌==◌, ◌&&◌, nat_lt, filter, map, option_map, slice_get}
use Rattle.std.specs.List.{AllByRecursion}
use Rattle.canary_metric.specs.Metrics.{MetricValue}
use Rattle.canary_metric.specs.Counts.{Counts}
use Rattle.canary_release.specs.declared.effect.Recorded.{Recorded}
use Rattle.canary_release.specs.Desks.{ModelService}
use Rattle.canary_release.specs.Order.{AreOrdered, AreLists, is_of, is_measured_by, is_of_some}
use Rattle.canary_release.specs.Pasts.{Run, counts_of}
use Rattle.canary_release.specs.Sound.{IsJudgedBy, AreJudged}
use Rattle.canary_once.specs.declared.record.RunRecord.{RunRecord}
use Rattle.canary_once.specs.Records.{record_of}
use Rattle.canary_tables_rows.specs.Tables.{Tables}
use Rattle.canary_tables_contents.specs.Values.{lists_in}
use Rattle.canary_tables_contents.specs.Counting.{at_metric, of_metric, none_counted, counted_all, AreCounted, IsOfMetric, IsList, AreListed, CountingIsExact, RunsAreTallied}
use Rattle.canary_tables_contents.specs.Services.{metrics_of_runs}
use Rattle.canary_tables_contents.proofs.JudgedCallers.{none_behind}
use Rattle.canary_tables_contents.proofs.CallersHold.{below_or}
use Rattle.canary_tables_contents.proofs.CallersJudged.{HasPlace, has_place}
use Rattle.canary_tables_contents.proofs.CountingRuns.{lists_same, as_many, as_mapped}
use Rattle.canary_tables_contents.proofs.ServicesJudgedLists.{all_pass, SomePasses, some_passes}
use Rattle.canary_tables_contents.proofs.ServicesJudgedRuns.{HasRows, its_number, StandsAt, stands_at}

-- The metrics of a service's runs.

abbrev pub metrics_planned : ModelService → List (List MetricValue)
metrics_planned m = metrics_of_runs (map record_of m.past.runs)

abbrev record_metrics : RunRecord → List MetricValue
record_metrics r = r.analysis.metrics

planned_at : (m : ModelService) (place : ℕ) (r : Run) → slice_get m.past.runs place ≡ Some r → slice_get (metrics_planned m) place ≡ Some r.analysis.metrics
planned_at m place r e =
    slice_get-map record_metrics (map record_of m.past.runs) place
    ∙ ap (option_map record_metrics) (slice_get-map record_of m.past.runs place ∙ ap (option_map record_of) e)

as_many_planned : (m : ModelService) → length (metrics_planned m) ≡ length m.past.runs
as_many_planned m = as_mapped record_metrics (map record_of m.past.runs) ∙ as_mapped record_of m.past.runs

-- Each is of a metric of a run.

both_hold : (a b : Bool) → a && b ≡ true → (a ≡ true) × (b ≡ true)
both_hold true b e = (refl, e)
both_hold false b e = absurd (cc)

below_by : (a b : ℕ) → nat_lt a b ≡ true → a < b
below_by a b e = grind (arith, nat_tests, e)

is_placed : (t : Tables) (q : List ℕ) (m : ModelService) → HasRows t q m → (x : Recorded) → is_of_some m.past.runs x ≡ true → IsOfMetric (metrics_planned m) x
is_placed t q m has x e =
    let h : SomePasses (is_measured_by x) m.past.runs = some_passes (is_measured_by x) m.past.runs e in
    let r : Run = h.value in
    let tests : ((x.run == r.number) ≡ true) × (nat_lt x.metric (length r.lists) ≡ true) = both_hold (x.run == r.number) (nat_lt x.metric (length r.lists)) h.passes in
    let at : StandsAt t q m r = stands_at t q m has h.place r h.there in
    let many : length r.analysis.metrics ≡ length r.lists = sym at.run.one_each in
    let below : x.metric < length r.lists = below_by x.metric (length r.lists) tests.1 in
    let p : HasPlace r.analysis.metrics x.metric = has_place r.analysis.metrics x.metric (omega arith) in
    let number : x.run ≡ suc h.place = (Decides-eqb x.run r.number).0 tests.0 ∙ its_number m.past.runs h.place r has.in_order.numbered h.there in
    record { metric = p.value; planned = ap (λ n. of_metric n x.metric (metrics_planned m)) number ∙ ap (at_metric x.metric) (planned_at m h.place r h.there) ∙ p.there }

all_placed : (t : Tables) (q : List ℕ) (m : ModelService) → HasRows t q m → (xs : List Recorded) → AllByRecursion (λ x. is_of_some m.past.runs x ≡ true) xs → AllByRecursion (IsOfMetric (metrics_planned m)) xs
all_placed t q m has [] all = tt
all_placed t q m has (x ∷ xs) all = (is_placed t q m has x all.0, all_placed t q m has xs all.1)

-- Each list of a metric is one.

record ListAt (all : List Recorded) (run place : ℕ) (metric : MetricValue) : Type 0 where
  list : List Recorded
  ordered : AreOrdered run place 1 list
  few : length list ≤ 1000000
  is : list ≡ filter (is_of run place) all
  judged : AllByRecursion (IsJudgedBy metric) list

list_at : (all : List Recorded) (run first place : ℕ) (metrics : List MetricValue) (lists : List (List Recorded)) (metric : MetricValue) → length lists ≡ length metrics → AreLists all run first lists → AreJudged metrics lists
    → slice_get metrics place ≡ Some metric → ListAt all run (place + first) metric
list_at all run first place [] lists metric many are judged e = absurd (cc)
list_at all run first place (m ∷ ms) [] metric many are judged e = absurd (omega arith)
list_at all run first zero (m ∷ ms) (list ∷ lists) metric many are judged e =
    let same : m ≡ metric = cc e in
    let here : ListAt all run first metric = record { list = list; ordered = are.0; few = are.1; is = are.2; judged = subst (λ (v : MetricValue). AllByRecursion (IsJudgedBy v) list) same judged.0 } in
    subst (λ n. ListAt all run n metric) (let n : first ≡ zero + first = omega arith in n) here
list_at all run first (suc place) (m ∷ ms) (list ∷ lists) metric many are judged e =
    subst (λ n. ListAt all run n metric) (let n : place + suc first ≡ suc place + first = omega arith in n) (list_at all run (suc first) place ms lists metric (omega arith) are.3 judged.1 e)

of_list : (all : List Recorded) (run place : ℕ) (metric : MetricValue) → ListAt all run place metric → IsList run place metric (filter (is_of run place) all)
of_list all run place metric l = subst (IsList run place metric) l.is (record { ordered = l.ordered; few = l.few; judged = l.judged })

-- the run of a planned metric
record IsPlanned (m : ModelService) (p place : ℕ) (metric : MetricValue) : Type 0 where
  run : Run
  there : slice_get m.past.runs p ≡ Some run
  planned : slice_get run.analysis.metrics place ≡ Some metric

is_planned : (m : ModelService) (p place : ℕ) (metric : MetricValue) → at_metric place (slice_get (metrics_planned m) p) ≡ Some metric → IsPlanned m p place metric
is_planned m p place metric e =
    elim (below_or p (length m.past.runs)) as (λ x. IsPlanned m p place metric) [
      | inl below ↦
          let h : HasPlace m.past.runs p = has_place m.past.runs p below in
          record { run = h.value; there = h.there; planned = ap (at_metric place) (sym (planned_at m p h.value h.there)) ∙ e }
      | inr above ↦
          let many : length (metrics_planned m) ≡ length m.past.runs = as_many_planned m in
          let none : at_metric place (slice_get (metrics_planned m) p) ≡ None = ap (at_metric place) (none_behind (metrics_planned m) p (omega arith)) in
          absurd (cc)
    ]

list_of : (t : Tables) (q : List ℕ) (m : ModelService) → HasRows t q m → (run place : ℕ) (metric : MetricValue) → of_metric run place (metrics_planned m) ≡ Some metric
    → IsList run place metric (filter (is_of run place) m.past.measurements)
list_of t q m has zero place metric e = absurd (cc)
list_of t q m has (suc p) place metric e =
    let h : IsPlanned m p place metric = is_planned m p place metric e in
    let at : StandsAt t q m h.run = stands_at t q m has p h.run h.there in
    let judged : AreJudged h.run.analysis.metrics h.run.lists = at.sound.0 in
    let l : ListAt m.past.measurements h.run.number (place + 0) metric =
    list_at m.past.measurements h.run.number 0 place h.run.analysis.metrics h.run.lists metric at.run.one_each at.run.lists judged h.planned in
    of_list m.past.measurements (suc p) place metric
    (subst (λ n. ListAt m.past.measurements n place metric) (its_number m.past.runs p h.run has.in_order.numbered h.there) (subst (λ n. ListAt m.past.measurements h.run.number n metric) (let z : place + 0 ≡ place = omega arith in z) l))

pub are_listed : (t : Tables) (q : List ℕ) (m : ModelService) → HasRows t q m → AreListed (metrics_planned m) m.past.measurements
are_listed t q m has = record {
  placed = all_placed t q m has m.past.measurements (all_pass (is_of_some m.past.runs) m.past.measurements has.in_order.measured);
  lists = list_of t q m has;
}

pub are_counted : CountingIsExact → (t : Tables) (q : List ℕ) (m : ModelService) → HasRows t q m → AreCounted (metrics_planned m) (none_counted (metrics_planned m)) m.past.measurements
are_counted exact t q m has = (exact (metrics_planned m) m.past.measurements).1 (are_listed t q m has)

-- The tallies.

lists_again : (all : List Recorded) (run metric : ℕ) (lists : List (List Recorded)) → AreLists all run metric lists → lists_in all run metric (length lists) ≡ lists
lists_again all run metric [] are = refl
lists_again all run metric (list ∷ lists) are = λ i. sym are.2 i ∷ lists_again all run (suc metric) lists are.3 i

abbrev record_tallies : RunRecord → List Counts
record_tallies r = r.tallies

tallied_at : RunsAreTallied → (t : Tables) (q : List ℕ) (m : ModelService) → HasRows t q m → (place : ℕ)
    → slice_get (map record_tallies (map record_of m.past.runs)) place ≡ slice_get (counted_all (none_counted (metrics_planned m)) m.past.measurements) place
tallied_at tallied t q m has place =
    let all : List Recorded = m.past.measurements in
    elim (below_or place (length m.past.runs)) as (λ x. slice_get (map record_tallies (map record_of m.past.runs)) place ≡ slice_get (counted_all (none_counted (metrics_planned m)) all) place) [
      | inl below ↦
          let h : HasPlace m.past.runs place = has_place m.past.runs place below in
          let r : Run = h.value in
          let at : StandsAt t q m r = stands_at t q m has place r h.there in
          let lists : lists_in all (suc place) 0 (length r.analysis.metrics) ≡ r.lists =
          (λ i. lists_in all (sym (its_number m.past.runs place r has.in_order.numbered h.there) i) 0 (sym at.run.one_each i)) ∙ lists_again all r.number 0 r.lists at.run.lists in
          slice_get-map record_tallies (map record_of m.past.runs) place
          ∙ ap (option_map record_tallies) (slice_get-map record_of m.past.runs place ∙ ap (option_map record_of) h.there)
          ∙ ap (λ (l : List (List Recorded)). Some (map counts_of l)) (sym lists)
          ∙ sym (tallied (metrics_planned m) all place r.analysis.metrics (planned_at m place r h.there))
      | inr above ↦
          let one : length (map record_tallies (map record_of m.past.runs)) ≡ length m.past.runs = as_mapped record_tallies (map record_of m.past.runs) ∙ as_mapped record_of m.past.runs in
          let two : length (counted_all (none_counted (metrics_planned m)) all) ≡ length m.past.runs =
          as_many (none_counted (metrics_planned m)) all ∙ as_mapped _ (metrics_planned m) ∙ as_many_planned m in
          none_behind (map record_tallies (map record_of m.past.runs)) place (omega arith) ∙ sym (none_behind (counted_all (none_counted (metrics_planned m)) all) place (omega arith))
    ]

pub are_tallied : RunsAreTallied → (t : Tables) (q : List ℕ) (m : ModelService) → HasRows t q m
    → map (λ (r : RunRecord). r.tallies) (map record_of m.past.runs) ≡ counted_all (none_counted (metrics_planned m)) m.past.measurements
are_tallied tallied t q m has =
    lists_same (map record_tallies (map record_of m.past.runs)) (counted_all (none_counted (metrics_planned m)) m.past.measurements) (tallied_at tallied t q m has)
