-- Measurements are counted exactly if their lists are in order, with room, and judged.
use Rattle.std.proofs.Common.{◌≡◌, ℕ, suc, ◌+◌, ◌≤◌, List, [], ◌∷◌, length, true, false, Some, refl, sym, ap, ◌∙◌, subst, arith}
use Rattle.std.specs.Prelude.{cond, filter, option_map}
use Rattle.std.specs.List.{AllByRecursion}
use Rattle.canary_condition.specs.declared.outcome.Phase.{Phase}
use Rattle.canary_condition.specs.declared.outcome.Phase.TheVariants.{Pending, Running, Successful, Inconclusive, Error, Failed}
use Rattle.canary_metric.specs.Metrics.{MetricValue}
use Rattle.canary_metric.specs.Counts.{Counts, counts, size, with_one_more}
use Rattle.canary_release.specs.declared.effect.Recorded.{Recorded}
use Rattle.canary_release.specs.Order.{AreOrdered, is_of}
use Rattle.canary_release.specs.Sound.{IsJudgedBy}
use Rattle.canary_release.specs.Watching.{counted}
use Rattle.canary_tables_contents.specs.Counting.{of_metric, none_counted, counted_at, IsNext, AreCounted, IsOfMetric, IsList, AreListed, CountingIsExact}
use Rattle.canary_tables_contents.proofs.Named.{first_kept, first_left}
use Rattle.canary_tables_contents.proofs.CountingLemmas.{is_of_both, own_of, counted_here, counted_there, none_of}

grown : (c : Counts) (p : Phase) (taken : ℕ) → size (with_one_more c p taken) ≡ suc (size c)
grown c Pending taken = omega arith
grown c Running taken = omega arith
grown c Successful taken = omega arith
grown c Inconclusive taken = omega arith
grown c Error taken = omega arith
grown c Failed taken = omega arith

one_larger : (x : Recorded) (c : Counts) → size (counted x c) ≡ suc (size c)
one_larger x c = grown c x.phase x.taken

-- a list of a metric whose first ordinal is this
record ListFrom (run place : ℕ) (metric : MetricValue) (first : ℕ) (list : List Recorded) : Type 0 where
  ordered : AreOrdered run place first list
  few : length list + first ≤ 1000001
  judged : AllByRecursion (IsJudgedBy metric) list

behind_first : (r m : ℕ) (metric : MetricValue) (k : ℕ) (x : Recorded) (list : List Recorded) → ListFrom r m metric k (x ∷ list) → ListFrom r m metric (suc k) list
behind_first r m metric k x list l = let room : suc (length list) + k ≤ 1000001 = l.few in record { ordered = l.ordered.3; few = omega arith; judged = l.judged.1 }

with_first : (r m : ℕ) (metric : MetricValue) (k : ℕ) (x : Recorded) (list : List Recorded) → x.run ≡ r → x.metric ≡ m → x.ordinal ≡ k → IsJudgedBy metric x → ListFrom r m metric (suc k) list → ListFrom r m metric k (x ∷ list)
with_first r m metric k x list run place ordinal judged l = let room : length list + suc k ≤ 1000001 = l.few in record { ordered = (run, place, ordinal, l.ordered); few = omega arith; judged = (judged, l.judged) }

same_metric : (a b : MetricValue) (r m q k : ℕ) (runs : List (List MetricValue)) → r ≡ q → m ≡ k → of_metric r m runs ≡ Some a → of_metric q k runs ≡ Some b → a ≡ b
same_metric a b r m q k runs run place one other =
    let both : Some a ≡ Some b = sym one ∙ (λ i. of_metric (run i) (place i) runs) ∙ other in
    cc both

same_tally : (a b : Counts) (r m q k : ℕ) (tallies : List (List Counts)) → r ≡ q → m ≡ k → of_metric r m tallies ≡ Some a → of_metric q k tallies ≡ Some b → a ≡ b
same_tally a b r m q k tallies run place one other =
    let both : Some a ≡ Some b = sym one ∙ (λ i. of_metric (run i) (place i) tallies) ∙ other in
    cc both

-- Counted, so in order.

listed_from : (runs : List (List MetricValue)) (tallies : List (List Counts)) (xs : List Recorded) → AreCounted runs tallies xs → (r m : ℕ) (metric : MetricValue) (c : Counts)
    → of_metric r m runs ≡ Some metric → of_metric r m tallies ≡ Some c → size c ≤ 1000000 → ListFrom r m metric (suc (size c)) (filter (is_of r m) xs)
listed_from runs tallies [] all r m metric c planned there room = record { ordered = tt; few = omega arith; judged = tt }
listed_from runs tallies (x ∷ xs) all r m metric c planned there room =
    elim (is_of r m x)
    as (λ b. is_of r m x ≡ b → ListFrom r m metric (suc (size c)) (cond b (x ∷ filter (is_of r m) xs) (filter (is_of r m) xs))) [
      | true ↦ λ e.
          let h : (x.run ≡ r) × (x.metric ≡ m) = is_of_both r m x e in
          let next : IsNext runs tallies x = all.0 in
          let tally : next.tally ≡ c = same_tally next.tally c x.run x.metric r m tallies h.0 h.1 next.there there in
          let own : next.metric ≡ metric = same_metric next.metric metric x.run x.metric r m runs h.0 h.1 next.planned planned in
          let sizes : size next.tally ≡ size c = ap size tally in
          let ordinal : x.ordinal ≡ size next.tally + 1 = next.ordinal in
          let space : size next.tally + 1 ≤ 1000000 = next.room in
          let larger : size (counted x c) ≡ suc (size c) = one_larger x c in
          let rest : ListFrom r m metric (suc (size (counted x c))) (filter (is_of r m) xs) =
          listed_from runs (counted_at x tallies) xs all.1 r m metric (counted x c) planned (counted_here r m x tallies e ∙ ap (option_map (counted x)) there) (omega arith) in
          with_first r m metric (suc (size c)) x (filter (is_of r m) xs) h.0 h.1 (omega arith) (subst (λ (v : MetricValue). IsJudgedBy v x) own next.judged)
          (subst (λ n. ListFrom r m metric (suc n) (filter (is_of r m) xs)) larger rest)
      | false ↦ λ e. listed_from runs (counted_at x tallies) xs all.1 r m metric c planned (counted_there r m x tallies e ∙ there) room
    ] refl

placed_all : (runs : List (List MetricValue)) (tallies : List (List Counts)) (xs : List Recorded) → AreCounted runs tallies xs → AllByRecursion (IsOfMetric runs) xs
placed_all runs tallies [] all = tt
placed_all runs tallies (x ∷ xs) all = let next : IsNext runs tallies x = all.0 in (record { metric = next.metric; planned = next.planned }, placed_all runs (counted_at x tallies) xs all.1)

of_list : (r m : ℕ) (metric : MetricValue) (list : List Recorded) → ListFrom r m metric 1 list → IsList r m metric list
of_list r m metric list l = let room : length list + 1 ≤ 1000001 = l.few in record { ordered = l.ordered; few = omega arith; judged = l.judged }

are_listed : (runs : List (List MetricValue)) (xs : List Recorded) → AreCounted runs (none_counted runs) xs → AreListed runs xs
are_listed runs xs all = record {
  placed = placed_all runs (none_counted runs) xs all;
  lists = λ r m metric planned. of_list r m metric (filter (is_of r m) xs) (listed_from runs (none_counted runs) xs all r m metric (counts []) planned (none_of runs r m metric planned) (omega arith));
}

-- In order, so counted.

record HasCounts (tallies : List (List Counts)) (r m : ℕ) : Type 0 where
  counts : Counts
  there : of_metric r m tallies ≡ Some counts

abbrev Shaped : List (List MetricValue) → List (List Counts) → Type 0
Shaped runs tallies = (r m : ℕ) (metric : MetricValue) → of_metric r m runs ≡ Some metric → HasCounts tallies r m

abbrev Listed : List (List MetricValue) → List (List Counts) → List Recorded → Type 0
Listed runs tallies xs = (r m : ℕ) (metric : MetricValue) (c : Counts) → of_metric r m runs ≡ Some metric → of_metric r m tallies ≡ Some c → ListFrom r m metric (suc (size c)) (filter (is_of r m) xs)

still_shaped : (runs : List (List MetricValue)) (tallies : List (List Counts)) (x : Recorded) → Shaped runs tallies → Shaped runs (counted_at x tallies)
still_shaped runs tallies x shaped r m metric planned =
    let s : HasCounts tallies r m = shaped r m metric planned in
    elim (is_of r m x)
    as (λ b. is_of r m x ≡ b → HasCounts (counted_at x tallies) r m) [
      | true ↦ λ e. record { counts = counted x s.counts; there = counted_here r m x tallies e ∙ ap (option_map (counted x)) s.there }
      | false ↦ λ e. record { counts = s.counts; there = counted_there r m x tallies e ∙ s.there }
    ] refl

same_counts : (a b : Counts) (r m : ℕ) (tallies : List (List Counts)) → of_metric r m tallies ≡ Some a → of_metric r m tallies ≡ Some b → a ≡ b
same_counts a b r m tallies one other = same_tally a b r m r m tallies refl refl one other

still_listed : (runs : List (List MetricValue)) (tallies : List (List Counts)) (x : Recorded) (xs : List Recorded) → Shaped runs tallies → Listed runs tallies (x ∷ xs) → Listed runs (counted_at x tallies) xs
still_listed runs tallies x xs shaped listed r m metric c planned there =
    let s : HasCounts tallies r m = shaped r m metric planned in
    let before : ListFrom r m metric (suc (size s.counts)) (filter (is_of r m) (x ∷ xs)) = listed r m metric s.counts planned s.there in
    elim (is_of r m x)
    as (λ b. is_of r m x ≡ b → ListFrom r m metric (suc (size c)) (filter (is_of r m) xs)) [
      | true ↦ λ e.
          let whole : ListFrom r m metric (suc (size s.counts)) (x ∷ filter (is_of r m) xs) = subst (ListFrom r m metric (suc (size s.counts))) (first_kept (is_of r m) x xs e) before in
          let same : counted x s.counts ≡ c = same_counts (counted x s.counts) c r m (counted_at x tallies) (counted_here r m x tallies e ∙ ap (option_map (counted x)) s.there) there in
          let sizes : suc (size s.counts) ≡ size c = sym (one_larger x s.counts) ∙ ap size same in
          subst (λ n. ListFrom r m metric (suc n) (filter (is_of r m) xs)) sizes (behind_first r m metric (suc (size s.counts)) x (filter (is_of r m) xs) whole)
      | false ↦ λ e.
          let whole : ListFrom r m metric (suc (size s.counts)) (filter (is_of r m) xs) = subst (ListFrom r m metric (suc (size s.counts))) (first_left (is_of r m) x xs e) before in
          let same : s.counts ≡ c = same_counts s.counts c r m (counted_at x tallies) (counted_there r m x tallies e ∙ s.there) there in
          subst (λ n. ListFrom r m metric (suc n) (filter (is_of r m) xs)) (ap size same) whole
    ] refl

counted_from : (runs : List (List MetricValue)) (tallies : List (List Counts)) (xs : List Recorded) → AllByRecursion (IsOfMetric runs) xs → Shaped runs tallies → Listed runs tallies xs → AreCounted runs tallies xs
counted_from runs tallies [] placed shaped listed = tt
counted_from runs tallies (x ∷ xs) placed shaped listed =
    let p : IsOfMetric runs x = placed.0 in
    let s : HasCounts tallies x.run x.metric = shaped x.run x.metric p.metric p.planned in
    let before : ListFrom x.run x.metric p.metric (suc (size s.counts)) (filter (is_of x.run x.metric) (x ∷ xs)) = listed x.run x.metric p.metric s.counts p.planned s.there in
    let own : ListFrom x.run x.metric p.metric (suc (size s.counts)) (x ∷ filter (is_of x.run x.metric) xs) =
    subst (ListFrom x.run x.metric p.metric (suc (size s.counts))) (first_kept (is_of x.run x.metric) x xs (own_of x)) before in
    let ordinal : x.ordinal ≡ suc (size s.counts) = own.ordered.2 in
    let space : suc (length (filter (is_of x.run x.metric) xs)) + suc (size s.counts) ≤ 1000001 = own.few in
    let next : IsNext runs tallies x = record { metric = p.metric; planned = p.planned; tally = s.counts; there = s.there; ordinal = omega arith; room = omega arith; judged = own.judged.0 } in
    (next, counted_from runs (counted_at x tallies) xs placed.1 (still_shaped runs tallies x shaped) (still_listed runs tallies x xs shaped listed))

from_list : (r m : ℕ) (metric : MetricValue) (list : List Recorded) → IsList r m metric list → ListFrom r m metric 1 list
from_list r m metric list l = let few : length list ≤ 1000000 = l.few in record { ordered = l.ordered; few = omega arith; judged = l.judged }

are_counted : (runs : List (List MetricValue)) (xs : List Recorded) → AreListed runs xs → AreCounted runs (none_counted runs) xs
are_counted runs xs l =
    counted_from runs (none_counted runs) xs l.placed (λ r m metric planned. record { counts = counts []; there = none_of runs r m metric planned }) (λ r m metric c planned there.
    let same : counts [] ≡ c = same_counts (counts []) c r m (none_counted runs) (none_of runs r m metric planned) there in
    subst (λ n. ListFrom r m metric (suc n) (filter (is_of r m) xs)) (ap size same) (from_list r m metric (filter (is_of r m) xs) (l.lists r m metric planned)))

pub counting_is_exact : CountingIsExact
counting_is_exact runs xs = (are_listed runs xs, are_counted runs xs)
