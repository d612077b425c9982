-- An analysis of a bound strategy has 1 to 32 metrics; and the empty map of templates.
use Rattle.std.proofs.Common.{◌≡◌, ℕ, zero, suc, ◌≤◌, Bool, true, false, List, [], ◌∷◌, length, refl, sym, subst, arith, ap, ◌∙◌}
use Rattle.std.specs.Prelude.{◌&&◌, not, nat_le, Option, Some, None, IfSome, slice_get, option_map}
use Rattle.std.specs.List.{list_all}
use Rattle.std.proofs.lemmas.Bool.Decides.{nat_tests}
use Rattle.std.specs.Ordering.{nat_cmp}
use Rattle.std.specs.Cmp.Lexicographic.{slice_cmp}
use Rattle.std.specs.FinMap.{FinMap, get, empty, get-empty}
use Rattle.canary_metric.specs.Metrics.{MetricValue}
use Rattle.canary_plan.specs.declared.analysis_parts.AnalysisParts.{AnalysisParts}
use Rattle.canary_plan.specs.declared.bound.BoundParts.{BoundParts}
use Rattle.canary_plan.specs.declared.template.Template.{Template}
use Rattle.canary_plan.specs.declared.strategy.CheckedStrategy.{CheckedStrategy}
use Rattle.canary_plan.specs.Fit.{are_metrics_of_run, have_counts, has_few, is_fit}
use Rattle.canary_plan.specs.Plans.{Templates, no_templates, binds, has_unknown, metrics_named, analysis_if, analysis_at, is_fit_if, are_fit, bound_of, unbound}

first : (a b : Bool) → (a && b) ≡ true → a ≡ true
first true b h = refl
first false b h = cc h

second : (a b : Bool) → (a && b) ≡ true → b ≡ true
second true b h = h
second false b h = cc h

both : (a b : Bool) → a ≡ true → b ≡ true → (a && b) ≡ true
both a b ha hb = ap (λ x. x && b) ha ∙ hb

at_least : (n : ℕ) → nat_le 1 n ≡ true → 1 ≤ n
at_least n h = grind (arith, nat_tests, h)

at_most : (n : ℕ) → nat_le n 32 ≡ true → n ≤ 32
at_most n h = grind (arith, nat_tests, h)

-- 1 to 32 metrics
abbrev pub IsOfRun : List MetricValue → Type 0
IsOfRun ms = (1 ≤ length ms) × (length ms ≤ 32)

of_run : (ms : List MetricValue) → are_metrics_of_run ms ≡ true → IsOfRun ms
of_run ms h = (at_least (length ms) (first (nat_le 1 (length ms)) _ h), at_most (length ms) (second (nat_le 1 (length ms)) _ h))

at_step : (steps : List (Option AnalysisParts)) (i : ℕ) → list_all is_fit_if steps ≡ true → is_fit_if (analysis_if (slice_get steps i)) ≡ true
at_step [] i h = refl
at_step (a ∷ steps) zero h = first (is_fit_if a) (list_all is_fit_if steps) h
at_step (a ∷ steps) (suc i) h = at_step steps i (second (is_fit_if a) (list_all is_fit_if steps) h)

-- an analysis of what is fit for runs is fit
pub fit_at : (b : BoundParts) (step : Option ℕ) → are_fit b ≡ true → is_fit_if (analysis_at b step) ≡ true
fit_at b (Some i) h = at_step b.steps i (first (list_all is_fit_if b.steps) (is_fit_if b.background) h)
fit_at b None h = second (list_all is_fit_if b.steps) (is_fit_if b.background) h

of_fit : (o : Option AnalysisParts) → is_fit_if o ≡ true → IfSome (option_map (λ (a : AnalysisParts). a.metrics) o) IsOfRun
of_fit None h = tt
of_fit (Some a) h = of_run a.metrics (first (are_metrics_of_run a.metrics) (have_counts a.metrics) h)

-- at most 32 metrics
pub few : (a : AnalysisParts) → has_few a ≡ true → length a.metrics ≤ 32
few a h = at_most (length a.metrics) (first (nat_le (length a.metrics) 32) (have_counts a.metrics) h)

-- templates that bind an analysis give it metrics of a run
pub bound_metrics : (known : Templates) (names : List (List ℕ)) → binds known names ≡ true → are_metrics_of_run (metrics_named known names) ≡ true
bound_metrics known names h = second (not (has_unknown known names)) (are_metrics_of_run (metrics_named known names)) h

pub few_of : (a : AnalysisParts) → are_metrics_of_run a.metrics ≡ true → have_counts a.metrics ≡ true → has_few a ≡ true
few_of a h counts = both (nat_le (length a.metrics) 32) (have_counts a.metrics) (second (nat_le 1 (length a.metrics)) _ h) counts

pub fit_of : (a : AnalysisParts) → are_metrics_of_run a.metrics ≡ true → have_counts a.metrics ≡ true → is_fit a ≡ true
fit_of a h counts = both (are_metrics_of_run a.metrics) (have_counts a.metrics) h counts

-- an empty map has no templates
none_known : (m : FinMap (slice_cmp nat_cmp) Template) → m ≡ empty → get m ≡ no_templates
none_known m e = λ i name. (ap (λ (k : FinMap (slice_cmp nat_cmp) Template). get k name) e ∙ get-empty (slice_cmp nat_cmp) name) i

-- what an empty map binds a strategy to
pub unbound_of : (m : FinMap (slice_cmp nat_cmp) Template) (s : CheckedStrategy) (b : BoundParts) → m ≡ empty → b ≡ bound_of (get m) s → b ≡ unbound s
unbound_of m s b none e = e ∙ ap (λ (known : Templates). bound_of known s) (none_known m none)

-- the metrics of an analysis that is bound
pub of_place : (b : BoundParts) (step : Option ℕ) (a : AnalysisParts) (ms : List MetricValue) → are_fit b ≡ true → Some a ≡ analysis_at b step → ms ≡ a.metrics → IsOfRun ms
of_place b step a ms h e is = subst IsOfRun (sym is) (of_fit (Some a) (subst (λ o. is_fit_if o ≡ true) (sym e) (fit_at b step h)))
