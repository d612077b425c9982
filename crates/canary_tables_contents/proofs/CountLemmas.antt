-- Measurements counted so far.
use Rattle.std.proofs.Common.{◌≡◌, ℕ, zero, suc, ◌<◌, ◌≤◌, List, [], ◌∷◌, length, map, refl, sym, ap, ◌∙◌, arith}
use Rattle.std.specs.Prelude.{Option, Some, None, option_map, slice_get, slice_set, slice_index_or}
use Rattle.std.proofs.lemmas.Option.{slice_get-map}
use Rattle.canary_metric.specs.Metrics.{MetricValue}
use Rattle.canary_release.specs.Pasts.{change_at}
use Rattle.canary_once.specs.declared.record.RunRecord.{RunRecord}
use Rattle.canary_tables_contents.specs.Counting.{at_run, at_metric, of_metric, change_run}
use Rattle.canary_tables_contents.specs.Services.{metrics_of_runs}

-- A list that changes at a place.

pub set_here : {A : Type 0} (k : ℕ) (f : A → A) (xs : List A) (d : A) → k < length xs → slice_set xs k (f (slice_index_or xs k d)) ≡ change_at k f xs
set_here k f [] d h = refl
set_here zero f (x ∷ xs) d h = refl
set_here (suc k) f (x ∷ xs) d h = ap (λ ys. x ∷ ys) (set_here k f xs d (omega arith))

pub change_past_end : {A : Type 0} (k : ℕ) (f : A → A) (xs : List A) → length xs ≤ k → change_at k f xs ≡ xs
change_past_end k f [] h = refl
change_past_end zero f (x ∷ xs) h = absurd (omega arith)
change_past_end (suc k) f (x ∷ xs) h = ap (λ ys. x ∷ ys) (change_past_end k f xs (omega arith))

pub run_changed : {A : Type 0} (run place : ℕ) (f : A → A) (xs : List A) → run ≡ suc place → change_run run f xs ≡ change_at place f xs
run_changed run place f xs is = ap (λ n. change_run n f xs) is

-- The metrics of a run.

run_at : {A B : Type 0} (f : A → B) (xs : List A) (run : ℕ) → at_run run (map f xs) ≡ option_map f (at_run run xs)
run_at f xs zero = refl
run_at f xs (suc place) = slice_get-map f xs place

abbrev metrics_of : RunRecord → List MetricValue
metrics_of r = r.analysis.metrics

pub unplanned : (runs : List RunRecord) (run metric : ℕ) → None ≡ at_run run runs → None ≡ of_metric run metric (metrics_of_runs runs)
unplanned runs run metric is = ap (λ (o : Option RunRecord). at_metric metric (option_map metrics_of o)) is ∙ sym (ap (at_metric metric) (run_at metrics_of runs run))

pub planned : (runs : List RunRecord) (run metric : ℕ) (r : RunRecord) → Some r ≡ at_run run runs → slice_get r.analysis.metrics metric ≡ of_metric run metric (metrics_of_runs runs)
planned runs run metric r is = ap (λ (o : Option RunRecord). at_metric metric (option_map metrics_of o)) is ∙ sym (ap (at_metric metric) (run_at metrics_of runs run))
