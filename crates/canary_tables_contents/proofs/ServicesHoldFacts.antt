-- What holds of each run of a service that is judged.
use Rattle.std.proofs.Common.{◌≡◌, ℕ, suc, List, [], length, Some, None, refl, sym, ap, ◌∙◌, subst}
use Rattle.std.specs.Prelude.{map, filter, slice_get, option_map}
use Rattle.std.proofs.lemmas.Option.{slice_get-map}
use Rattle.canary_metric.specs.Metrics.{MetricValue}
use Rattle.canary_metric.specs.Counts.{Counts}
use Rattle.canary_plan.specs.declared.strategy.CheckedStrategy.{CheckedStrategy}
use Rattle.canary_plan.specs.Plans.{strategy_of}
use Rattle.canary_release.specs.declared.effect.Recorded.{Recorded}
use Rattle.canary_release.specs.Order.{is_of}
use Rattle.canary_release.specs.Pasts.{counts_of}
use Rattle.canary_once.specs.declared.record.RunRecord.{RunRecord}
use Rattle.canary_tables_rows.specs.declared.rows.ServiceRow.{ServiceRow}
use Rattle.canary_tables_rows.specs.Tables.{Tables}
use Rattle.canary_tables_contents.specs.Values.{lists_in}
use Rattle.canary_tables_contents.specs.Counting.{at_metric, none_counted, counted_all, IsList, AreListed, CountingIsExact, RunsAreTallied}
use Rattle.canary_tables_contents.specs.Services.{IsRunJudged, metrics_of_runs, IsServiceJudged}

-- a run of a service, among these measurements
pub record IsRunOf (t : Tables) (strategy : CheckedStrategy) (name : List ℕ) (xs : List Recorded) (number : ℕ) (r : RunRecord) : Type 0 where
  pub numbered : r.number ≡ number
  pub judged : IsRunJudged t strategy name r
  pub tallied : map counts_of (lists_in xs r.number 0 (length r.analysis.metrics)) ≡ r.tallies
  pub lists : (place : ℕ) (metric : MetricValue) → slice_get r.analysis.metrics place ≡ Some metric → IsList r.number place metric (filter (is_of r.number place) xs)

abbrev metrics_of : RunRecord → List MetricValue
metrics_of r = r.analysis.metrics

pub metrics_there : (runs : List RunRecord) (place : ℕ) (r : RunRecord) → slice_get runs place ≡ Some r → slice_get (metrics_of_runs runs) place ≡ Some r.analysis.metrics
metrics_there runs place r there = slice_get-map metrics_of runs place ∙ ap (option_map metrics_of) there

pub are_listed : CountingIsExact → (t : Tables) (row : ServiceRow) (j : IsServiceJudged t row) → AreListed (metrics_of_runs j.runs) j.measurements
are_listed exact t row j = (exact (metrics_of_runs j.runs) j.measurements).0 j.counted

tallies_there : RunsAreTallied → (t : Tables) (row : ServiceRow) (j : IsServiceJudged t row) (place : ℕ) (r : RunRecord) → slice_get j.runs place ≡ Some r
    → map counts_of (lists_in j.measurements (suc place) 0 (length r.analysis.metrics)) ≡ r.tallies
tallies_there tallied t row j place r there =
    let metrics : List (List MetricValue) = metrics_of_runs j.runs in
    let lists : List (List Recorded) = lists_in j.measurements (suc place) 0 (length r.analysis.metrics) in
    let counted : slice_get (counted_all (none_counted metrics) j.measurements) place ≡ Some (map counts_of lists) = tallied metrics j.measurements place r.analysis.metrics (metrics_there j.runs place r there) in
    let own : slice_get (map (λ (x : RunRecord). x.tallies) j.runs) place ≡ Some r.tallies = slice_get-map (λ (x : RunRecord). x.tallies) j.runs place ∙ ap (option_map (λ (x : RunRecord). x.tallies)) there in
    let both : Some (map counts_of lists) ≡ Some r.tallies = sym counted ∙ ap (λ (ts : List (List Counts)). slice_get ts place) (sym j.tallied) ∙ own in
    cc both

pub run_of_judged : CountingIsExact → RunsAreTallied → (t : Tables) (row : ServiceRow) (j : IsServiceJudged t row) (place : ℕ) (r : RunRecord) → slice_get j.runs place ≡ Some r
    → IsRunOf t (strategy_of j.made) row.name j.measurements (suc place) r
run_of_judged exact tallied t row j place r there =
    let number : r.number ≡ suc place = (j.each place r there).0 in
    let listed : AreListed (metrics_of_runs j.runs) j.measurements = are_listed exact t row j in
    record {
      numbered = number;
      judged = (j.each place r there).1;
      tallied = ap (λ n. map counts_of (lists_in j.measurements n 0 (length r.analysis.metrics))) number ∙ tallies_there tallied t row j place r there;
      lists = λ m metric e. subst (λ n. IsList n m metric (filter (is_of n m) j.measurements)) (sym number) (listed.lists (suc place) m metric (ap (at_metric m) (metrics_there j.runs place r there) ∙ e));
    }
