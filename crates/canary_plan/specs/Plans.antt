-- What a template is once its conditions are read, a strategy that names templates, and what these
-- bind it to.
use Rattle.std.specs.Prelude.{◌≡◌, ℕ, nat_le, ◌||◌, ◌&&◌, not, Bool, true, if◌then◌else◌, List, [], ◌∷◌, ◌++◌, length, map, filter, flat_map, slice_get, Option, Some, None, is_none, option_map, unwrap_or, codes}
use Rattle.std.specs.List.{AllByRecursion, list_any, list_all}
use Rattle.std.specs.Str.{bytes_eq}
use Rattle.canary_condition.specs.Trees.{Tree}
use Rattle.canary_metric.specs.Metrics.{MetricValue}
use Rattle.canary_metric.specs.declared.metric.MetricSettings.{MetricSettings}
use Rattle.canary_metric.specs.Settings.{metric_of}
use Rattle.canary_plan.specs.declared.step.Step.{Step}
use Rattle.canary_plan.specs.declared.step.Step.TheVariants.{SetWeight, Pause, Analysis}
use Rattle.canary_plan.specs.declared.service.Background.{Background}
use Rattle.canary_plan.specs.declared.service.ServiceSpec.{ServiceSpec}
use Rattle.canary_plan.specs.declared.analysis_parts.AnalysisParts.{AnalysisParts}
use Rattle.canary_plan.specs.declared.bound.BoundParts.{BoundParts}
use Rattle.canary_plan.specs.declared.strategy.CheckedStrategy.{CheckedStrategy}
use Rattle.canary_plan.specs.declared.analysis_parts.Revision.{Revision}
use Rattle.canary_plan.specs.declared.template_spec.MetricSpec.{MetricSpec}
use Rattle.canary_plan.specs.declared.template_spec.TemplateSpec.{TemplateSpec}
use Rattle.canary_plan.specs.declared.template.Template.{Template}
use Rattle.canary_plan.specs.Conditions.{condition_of}
use Rattle.canary_plan.specs.Fit.{are_metrics_of_run, is_fit, no_analysis}

-- the templates that are known, by name
abbrev pub Templates : Type 0
Templates = List ℕ → Option Template

-- two sets of templates agree on these names
abbrev pub Agree : Templates → Templates → List (List ℕ) → Type 0
Agree known other names = AllByRecursion (λ name. known name ≡ other name) names

abbrev pub condition_if : Option (List ℕ) → Option Tree
condition_if None = None
condition_if (Some text) = condition_of text

-- `.*`, which marks every metric of its template
abbrev pub all_metrics : List ℕ
all_metrics = codes ".*"

-- these names mark that metric as dry-run
abbrev pub is_marked : List (List ℕ) → List ℕ → Bool
is_marked dry_run name = list_any (λ d. bytes_eq d all_metrics || bytes_eq d name) dry_run

abbrev pub settings_of : List (List ℕ) → MetricSpec → MetricSettings
settings_of dry_run m =
    record {
      name = m.name;
      success = condition_if m.success;
      failure = condition_if m.failure;
      interval = m.interval;
      initial_delay = Some m.initial_delay;
      count = m.count;
      pass_after = m.pass_after;
      failure_limit = Some m.failure_limit;
      inconclusive_limit = Some m.inconclusive_limit;
      consecutive_error_limit = Some m.consecutive_error_limit;
      dry_run = is_marked dry_run m.name;
    }

-- a metric of a template, with its conditions read and its mark
abbrev pub bound_metric : List (List ℕ) → MetricSpec → MetricValue
bound_metric dry_run m = metric_of (settings_of dry_run m)

abbrev pub template_of : TemplateSpec → ℕ → Template
template_of spec revision =
    record {
      spec = spec;
      revision = revision;
      metrics = map (bound_metric spec.dry_run) spec.metrics;
    }

abbrev pub metrics_in : Option Template → List MetricValue
metrics_in None = []
metrics_in (Some t) = t.metrics

-- the metrics of these templates together, in order
abbrev pub metrics_named : Templates → List (List ℕ) → List MetricValue
metrics_named known names = flat_map (λ name. metrics_in (known name)) names

abbrev pub revisions_in : List ℕ → Option Template → List Revision
revisions_in name None = []
revisions_in name (Some t) = record { template = name; number = t.revision } ∷ []

-- the revisions of these templates, in order
abbrev pub revisions_named : Templates → List (List ℕ) → List Revision
revisions_named known names = flat_map (λ name. revisions_in name (known name)) names

-- the strategy that a service asks for
abbrev pub strategy_of : ServiceSpec → CheckedStrategy
strategy_of spec = record { steps = spec.steps; background = spec.background }

-- Limits of a strategy that was checked.

-- 1 to 8 templates of an analysis
abbrev pub are_templates_of_run : List (List ℕ) → Bool
are_templates_of_run names = nat_le 1 (length names) && nat_le (length names) 8

-- a weight is at most 100 percent, and an analysis has 1 to 8 templates
abbrev pub is_within_limits : Step → Bool
is_within_limits (SetWeight percent) = nat_le percent 100
is_within_limits (Pause seconds) = true
is_within_limits (Analysis names) = are_templates_of_run names

abbrev pub is_background_within_limits : Option Background → Bool
is_background_within_limits None = true
is_background_within_limits (Some b) = are_templates_of_run b.templates

-- at most 64 steps, no weight above 100, and 1 to 8 templates of each analysis
abbrev pub is_accepted : CheckedStrategy → Bool
is_accepted s =
    nat_le (length s.steps) 64
    && (list_all is_within_limits s.steps && is_background_within_limits s.background)

-- What a strategy is bound to.

abbrev pub has_unknown : Templates → List (List ℕ) → Bool
has_unknown known names = list_any (λ name. is_none (known name)) names

-- each template of an analysis is known, and they have 1 to 32 metrics together
abbrev pub binds : Templates → List (List ℕ) → Bool
binds known names = not (has_unknown known names) && are_metrics_of_run (metrics_named known names)

-- an analysis bound to these templates, or none if they don't bind it
abbrev pub analysis_of : Templates → List (List ℕ) → Option AnalysisParts
analysis_of known names =
    if binds known names
    then Some (record
    { revisions = revisions_named known names; metrics = metrics_named known names })
    else None

abbrev pub bound_step : Templates → Step → Option AnalysisParts
bound_step known (Analysis names) = analysis_of known names
bound_step known (SetWeight percent) = None
bound_step known (Pause seconds) = None

abbrev pub bound_background : Templates → Option Background → Option AnalysisParts
bound_background known None = None
bound_background known (Some b) = analysis_of known b.templates

-- the analyses of a strategy, bound to the templates that are known
abbrev pub bound_of : Templates → CheckedStrategy → BoundParts
bound_of known s =
    record {
      steps = map (bound_step known) s.steps;
      background = bound_background known s.background;
    }

abbrev pub no_templates : Templates
no_templates name = None

-- a strategy with no analysis bound
abbrev pub unbound : CheckedStrategy → BoundParts
unbound s = bound_of no_templates s

abbrev pub analysis_if : Option (Option AnalysisParts) → Option AnalysisParts
analysis_if None = None
analysis_if (Some a) = a

-- the analysis at that step, or the background, if it is bound
abbrev pub analysis_at : BoundParts → Option ℕ → Option AnalysisParts
analysis_at b (Some i) = analysis_if (slice_get b.steps i)
analysis_at b None = b.background

-- the same, and one of no templates if it is not bound
abbrev pub analysis_or_none : BoundParts → Option ℕ → AnalysisParts
analysis_or_none b step = unwrap_or (analysis_at b step) no_analysis

-- the metrics of the analysis at that step, or of the background
abbrev pub metrics_at : BoundParts → Option ℕ → Option (List MetricValue)
metrics_at b step = option_map (λ (a : AnalysisParts). a.metrics) (analysis_at b step)

-- What a binding names.

abbrev pub revisions_if : Option AnalysisParts → List Revision
revisions_if None = []
revisions_if (Some a) = a.revisions

-- the revisions of all analyses that are bound, in order; one for each time that its template is
-- named
abbrev pub all_revisions : BoundParts → List Revision
all_revisions b = flat_map revisions_if b.steps ++ revisions_if b.background

abbrev pub is_of_other : Revision → Revision → Bool
is_of_other r x = not (bytes_eq r.template x.template)

-- of each template the first of these revisions
abbrev pub distinct : List Revision → List Revision
distinct [] = []
distinct (r ∷ rs) = r ∷ filter (is_of_other r) (distinct rs)

abbrev pub is_fit_if : Option AnalysisParts → Bool
is_fit_if None = true
is_fit_if (Some a) = is_fit a

-- each analysis that is bound is fit for runs
abbrev pub are_fit : BoundParts → Bool
are_fit b = list_all is_fit_if b.steps && is_fit_if b.background
