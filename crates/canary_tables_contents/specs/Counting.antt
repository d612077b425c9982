-- Measurements counted one after another, each judged as it comes.
use Rattle.std.specs.Prelude.{◌≡◌, ◌↔◌, ℕ, zero, suc, ◌+◌, ◌≤◌, List, [], ◌∷◌, length, map, filter, replicate, Option, Some, None, slice_get}
use Rattle.std.specs.List.{AllByRecursion}
use Rattle.canary_metric.specs.Metrics.{MetricValue}
use Rattle.canary_metric.specs.Counts.{Counts, counts, size}
use Rattle.canary_release.specs.declared.effect.Recorded.{Recorded}
use Rattle.canary_release.specs.Order.{AreOrdered, is_of}
use Rattle.canary_release.specs.Pasts.{change_at, counts_of}
use Rattle.canary_release.specs.Sound.{IsJudgedBy}
use Rattle.canary_release.specs.Watching.{counted}
use Rattle.canary_tables_contents.specs.Values.{lists_in}

-- Lists for the runs 1, 2 and so on, each with something for its metrics from 0 on.

abbrev pub at_run : {A : Type 0} → ℕ → List A → Option A
at_run zero runs = None
at_run (suc place) runs = slice_get runs place

abbrev pub at_metric : {A : Type 0} → ℕ → Option (List A) → Option A
at_metric metric None = None
at_metric metric (Some list) = slice_get list metric

-- what a metric of a run has
abbrev pub of_metric : {A : Type 0} → ℕ → ℕ → List (List A) → Option A
of_metric run metric runs = at_metric metric (at_run run runs)

abbrev pub change_run : {A : Type 0} → ℕ → (A → A) → List A → List A
change_run zero f runs = runs
change_run (suc place) f runs = change_at place f runs

-- no measurements of any metric of these runs
abbrev pub none_counted : List (List MetricValue) → List (List Counts)
none_counted runs = map (λ metrics. replicate (length metrics) (counts [])) runs

abbrev pub counted_at : Recorded → List (List Counts) → List (List Counts)
counted_at x tallies = change_run x.run (change_at x.metric (counted x)) tallies

abbrev pub counted_all : List (List Counts) → List Recorded → List (List Counts)
counted_all tallies [] = tallies
counted_all tallies (x ∷ xs) = counted_all (counted_at x tallies) xs

-- a measurement that may come next: its metric is one of its run, it has the next ordinal of it,
-- there is room, and its phase is that of the metric's conditions
pub record IsNext (runs : List (List MetricValue)) (tallies : List (List Counts))
    (x : Recorded) : Type 0 where
  pub metric : MetricValue
  pub planned : of_metric x.run x.metric runs ≡ Some metric
  pub tally : Counts
  pub there : of_metric x.run x.metric tallies ≡ Some tally
  pub ordinal : x.ordinal ≡ size tally + 1
  pub room : size tally + 1 ≤ 1000000
  pub judged : IsJudgedBy metric x

-- each may come next, after those before it
abbrev pub AreCounted : List (List MetricValue) → List (List Counts) → List Recorded → Type 0
AreCounted runs tallies [] = Unit {0}
AreCounted runs tallies (x ∷ xs) = IsNext runs tallies x × AreCounted runs (counted_at x tallies) xs

-- What that comes to, said of whole lists.

-- it is of a metric of one of these runs
pub record IsOfMetric (runs : List (List MetricValue)) (x : Recorded) : Type 0 where
  pub metric : MetricValue
  pub planned : of_metric x.run x.metric runs ≡ Some metric

-- the measurements of a metric are in order, at most 1,000,000, and each has the phase that the
-- conditions give it
pub record IsList (run place : ℕ) (metric : MetricValue) (list : List Recorded) : Type 0 where
  pub ordered : AreOrdered run place 1 list
  pub few : length list ≤ 1000000
  pub judged : AllByRecursion (IsJudgedBy metric) list

pub record AreListed (runs : List (List MetricValue)) (xs : List Recorded) : Type 0 where
  pub placed : AllByRecursion (IsOfMetric runs) xs
  pub lists : (run place : ℕ) (metric : MetricValue) → of_metric run place runs ≡ Some metric
      → IsList run place metric (filter (is_of run place) xs)

-- the law: measurements are counted one after another exactly if their lists are in order and
-- judged
abbrev pub CountingIsExact : Type 0
CountingIsExact =
    (runs : List (List MetricValue)) (xs : List Recorded) → AreCounted runs (none_counted runs) xs
    ↔ AreListed runs xs

-- the law: then each metric has the counts of its whole list
abbrev pub CountingCounts : Type 0
CountingCounts =
    (runs : List (List MetricValue)) (xs : List Recorded) (run place : ℕ) (metric : MetricValue)
    → of_metric run place runs ≡ Some metric
    → of_metric run place (counted_all (none_counted runs) xs)
    ≡ Some (counts_of (filter (is_of run place) xs))

-- the law: what a run has then is the counts of its lists, a list for each of its metrics
abbrev pub RunsAreTallied : Type 0
RunsAreTallied =
    (runs : List (List MetricValue)) (xs : List Recorded) (place : ℕ) (metrics : List MetricValue)
    → slice_get runs place ≡ Some metrics
    → slice_get (counted_all (none_counted runs) xs) place
    ≡ Some (map counts_of (lists_in xs (suc place) 0 (length metrics)))
