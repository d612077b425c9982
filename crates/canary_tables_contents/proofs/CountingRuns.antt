-- What each run has once measurements are counted.
use Rattle.std.proofs.Common.{◌≡◌, inl, inr, ℕ, zero, suc, ◌+◌, ◌≤◌, ◌<◌, List, [], ◌∷◌, length, Some, None, refl, sym, ap, ◌∙◌, arith}
use Rattle.std.specs.Prelude.{filter, map, replicate, option_map, slice_get}
use Rattle.std.proofs.lemmas.Option.{slice_get-map}
use Rattle.canary_metric.specs.Metrics.{MetricValue}
use Rattle.canary_metric.specs.Counts.{Counts, counts, CountsOneMore}
use Rattle.canary_release.specs.declared.effect.Recorded.{Recorded}
use Rattle.canary_release.specs.Order.{is_of}
use Rattle.canary_release.specs.Pasts.{change_at, counts_of}
use Rattle.canary_release.specs.Watching.{counted}
use Rattle.canary_tables_contents.specs.Values.{lists_in}
use Rattle.canary_tables_contents.specs.Counting.{at_metric, of_metric, change_run, none_counted, counted_at, counted_all, RunsAreTallied}
use Rattle.canary_tables_contents.proofs.JudgedCallers.{none_behind}
use Rattle.canary_tables_contents.proofs.CallersHold.{below_or}
use Rattle.canary_tables_contents.proofs.CallersJudged.{HasPlace, has_place, below_length}
use Rattle.canary_tables_contents.proofs.CountingLemmas.{counting_counts, tally_after, after_all}

-- Lists with the same in each place.

pub lists_same : {A : Type 0} (xs ys : List A) → ((i : ℕ) → slice_get xs i ≡ slice_get ys i) → xs ≡ ys
lists_same [] [] same = refl
lists_same [] (y ∷ ys) same = let e : None ≡ Some y = same 0 in absurd (cc)
lists_same (x ∷ xs) [] same = let e : Some x ≡ None = same 0 in absurd (cc)
lists_same (x ∷ xs) (y ∷ ys) same =
    let e : Some x ≡ Some y = same 0 in
    let first : x ≡ y = cc in
    λ i. first i ∷ lists_same xs ys (λ j. same (suc j)) i

-- Lengths.

as_long : {A : Type 0} (k : ℕ) (f : A → A) (xs : List A) → length (change_at k f xs) ≡ length xs
as_long k f [] = refl
as_long zero f (x ∷ xs) = refl
as_long (suc k) f (x ∷ xs) = ap suc (as_long k f xs)

as_many_runs : {A : Type 0} (run : ℕ) (f : A → A) (runs : List A) → length (change_run run f runs) ≡ length runs
as_many_runs zero f runs = refl
as_many_runs (suc place) f runs = as_long place f runs

pub as_many : (tallies : List (List Counts)) (xs : List Recorded) → length (counted_all tallies xs) ≡ length tallies
as_many tallies [] = refl
as_many tallies (x ∷ xs) = as_many (counted_at x tallies) xs ∙ as_many_runs x.run (change_at x.metric (counted x)) tallies

pub as_mapped : {A B : Type 0} (f : A → B) (xs : List A) → length (map f xs) ≡ length xs
as_mapped f [] = refl
as_mapped f (x ∷ xs) = ap suc (as_mapped f xs)

so_many_lists : (all : List Recorded) (run metric n : ℕ) → length (lists_in all run metric n) ≡ n
so_many_lists all run metric zero = refl
so_many_lists all run metric (suc n) = ap suc (so_many_lists all run (suc metric) n)

-- The lists of a run.

list_at : (all : List Recorded) (run metric n i : ℕ) → i < n → slice_get (lists_in all run metric n) i ≡ Some (filter (is_of run (metric + i)) all)
list_at all run metric zero i below = absurd (omega arith)
list_at all run metric (suc n) zero below = ap (λ m. Some (filter (is_of run m) all)) (let e : metric ≡ metric + zero = omega arith in e)
list_at all run metric (suc n) (suc i) below = list_at all run (suc metric) n i (omega arith) ∙ ap (λ m. Some (filter (is_of run m) all)) (let e : suc metric + i ≡ metric + suc i = omega arith in e)

so_replicated : {A B : Type 0} (xs : List A) (c : B) (i : ℕ) → length xs ≤ i → slice_get (replicate (length xs) c) i ≡ None
so_replicated [] c i behind = refl
so_replicated (x ∷ xs) c zero behind = absurd (omega arith)
so_replicated (x ∷ xs) c (suc i) behind = so_replicated xs c i (omega arith)

none_at_place : (runs : List (List MetricValue)) (place : ℕ) (metrics : List MetricValue) → slice_get runs place ≡ Some metrics → slice_get (none_counted runs) place ≡ Some (replicate (length metrics) (counts []))
none_at_place runs place metrics e = slice_get-map (λ (ms : List MetricValue). replicate (length ms) (counts [])) runs place ∙ ap (option_map (λ (ms : List MetricValue). replicate (length ms) (counts []))) e

same_at : CountsOneMore → (runs : List (List MetricValue)) (xs : List Recorded) (place : ℕ) (metrics : List MetricValue) → slice_get runs place ≡ Some metrics → (i : ℕ)
    → of_metric (suc place) i (counted_all (none_counted runs) xs) ≡ slice_get (map counts_of (lists_in xs (suc place) 0 (length metrics))) i
same_at more runs xs place metrics e i =
    let lists : List (List Recorded) = lists_in xs (suc place) 0 (length metrics) in
    elim (below_or i (length metrics)) as (λ x. of_metric (suc place) i (counted_all (none_counted runs) xs) ≡ slice_get (map counts_of lists) i) [
      | inl below ↦
          let h : HasPlace metrics i = has_place metrics i below in
          counting_counts more runs xs (suc place) i h.value (ap (at_metric i) e ∙ h.there)
          ∙ sym (slice_get-map counts_of lists i ∙ ap (option_map counts_of) (list_at xs (suc place) 0 (length metrics) i below ∙ ap (λ m. Some (filter (is_of (suc place) m) xs)) (let z : 0 + i ≡ i = omega arith in z)))
      | inr above ↦
          let many : length (map counts_of lists) ≡ length metrics = as_mapped counts_of lists ∙ so_many_lists xs (suc place) 0 (length metrics) in
          after_all (suc place) i (none_counted runs) xs
          ∙ ap (option_map (λ c. tally_after c (filter (is_of (suc place) i) xs))) (ap (at_metric i) (none_at_place runs place metrics e) ∙ so_replicated metrics (counts []) i above)
          ∙ sym (none_behind (map counts_of lists) i (omega arith))
    ]

pub runs_are_tallied : CountsOneMore → RunsAreTallied
runs_are_tallied more runs xs place metrics e =
    let below : place < length runs = below_length runs place metrics e in
    let many : length (counted_all (none_counted runs) xs) ≡ length runs = as_many (none_counted runs) xs ∙ as_mapped (λ (ms : List MetricValue). replicate (length ms) (counts [])) runs in
    let h : HasPlace (counted_all (none_counted runs) xs) place = has_place (counted_all (none_counted runs) xs) place (omega arith) in
    let there : slice_get (counted_all (none_counted runs) xs) place ≡ Some h.value = h.there in
    there ∙ ap Some (lists_same h.value (map counts_of (lists_in xs (suc place) 0 (length metrics))) (λ i. ap (at_metric i) (sym there) ∙ same_at more runs xs place metrics e i))
