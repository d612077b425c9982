-- When an analysis that is bound is fit for runs.
use Rattle.std.specs.Prelude.{ℕ, nat_le, ◌&&◌, Bool, true, List, [], length, Option, Some, None}
use Rattle.std.specs.List.{list_all}
use Rattle.canary_metric.specs.Metrics.{MetricValue}
use Rattle.canary_plan.specs.declared.analysis_parts.AnalysisParts.{AnalysisParts}

-- 1 to 32 metrics of an analysis
abbrev pub are_metrics_of_run : List MetricValue → Bool
are_metrics_of_run ms = nat_le 1 (length ms) && nat_le (length ms) 32

-- no number, or one of at least 1
abbrev pub is_at_least_one : Option ℕ → Bool
is_at_least_one None = true
is_at_least_one (Some n) = nat_le 1 n

-- the metric's count, and its number of successes in a row, are at least 1 if it has them
abbrev pub asks_for_some : MetricValue → Bool
asks_for_some m = is_at_least_one m.count && is_at_least_one m.pass_after

-- each of these metrics does
abbrev pub have_counts : List MetricValue → Bool
have_counts ms = list_all asks_for_some ms

-- at most 32 metrics, each of which asks for at least 1 measurement and 1 success in a row, if
-- it asks for a number
abbrev pub has_few : AnalysisParts → Bool
has_few a = nat_le (length a.metrics) 32 && have_counts a.metrics

-- 1 to 32 metrics, with the same
abbrev pub is_fit : AnalysisParts → Bool
is_fit a = are_metrics_of_run a.metrics && have_counts a.metrics

-- of no templates
abbrev pub no_analysis : AnalysisParts
no_analysis = record { revisions = []; metrics = [] }
