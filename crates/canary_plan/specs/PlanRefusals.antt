-- Why a template or a service is refused, and why a strategy is not bound, in order.
use Rattle.std.specs.Prelude.{ℕ, ◌||◌, ◌&&◌, nat_lt, not, Bool, false, List, [], ◌∷◌, ◌++◌, length, map, Option, Some, None, is_none}
use Rattle.std.specs.List.{list_any, list_all, filter_map}
use Rattle.std.specs.Str.{bytes_eq}
use Rattle.canary_metric.specs.Metrics.{MetricValue, effective_count}
use Rattle.canary_plan.specs.declared.step.Step.{Step}
use Rattle.canary_plan.specs.declared.step.Step.TheVariants.{SetWeight, Pause, Analysis}
use Rattle.canary_plan.specs.declared.service.Background.{Background}
use Rattle.canary_plan.specs.declared.service.ServiceSpec.{ServiceSpec}
use Rattle.canary_plan.specs.declared.template_spec.MetricSpec.{MetricSpec}
use Rattle.canary_plan.specs.declared.template_spec.TemplateSpec.{TemplateSpec}
use Rattle.canary_plan.specs.declared.refusal.Refusal.{Refusal}
use Rattle.canary_plan.specs.declared.refusal.Refusal.TheVariants.{BadCondition, IntervalNeeded, DuplicateMetric, BadDryRun, UnknownTemplate, EndlessMetric, BadStrategy}
use Rattle.canary_plan.specs.Conditions.{condition_of}
use Rattle.canary_plan.specs.declared.strategy.CheckedStrategy.{CheckedStrategy}
use Rattle.canary_plan.specs.Plans.{Templates, all_metrics, metrics_named, has_unknown, binds, is_within_limits, is_background_within_limits}
use Rattle.canary_plan.specs.Refusals.{first_that_holds}

-- some name stands twice
abbrev pub has_duplicate : List (List ℕ) → Bool
has_duplicate [] = false
has_duplicate (name ∷ names) = list_any (bytes_eq name) names || has_duplicate names

-- a condition that is there and has no reading
abbrev pub is_unreadable : Option (List ℕ) → Bool
is_unreadable None = false
is_unreadable (Some text) = is_none (condition_of text)

abbrev pub has_bad_condition : MetricSpec → Bool
has_bad_condition m = is_unreadable m.success || is_unreadable m.failure

abbrev pub is_above_one : Option ℕ → Bool
is_above_one None = false
is_above_one (Some n) = nat_lt 1 n

-- a count above 1 without an interval
abbrev pub needs_interval : MetricSpec → Bool
needs_interval m = is_above_one m.count && is_none m.interval

-- a name that is neither a metric of the template nor `.*`
abbrev pub is_foreign : TemplateSpec → List ℕ → Bool
is_foreign t name =
    not (bytes_eq name all_metrics || list_any (λ (m : MetricSpec). bytes_eq m.name name) t.metrics)

-- why a template is refused
abbrev pub template_refusal : TemplateSpec → Option Refusal
template_refusal t =
    first_that_holds (
    (list_any has_bad_condition t.metrics, BadCondition)
    ∷ (list_any needs_interval t.metrics, IntervalNeeded)
    ∷ (has_duplicate (map (λ (m : MetricSpec). m.name) t.metrics), DuplicateMetric)
    ∷ (list_any (is_foreign t) t.dry_run, BadDryRun)
    ∷ []
    )

abbrev pub names_of_step : Step → Option (List (List ℕ))
names_of_step (Analysis names) = Some names
names_of_step (SetWeight percent) = None
names_of_step (Pause seconds) = None

abbrev pub names_of_background : Option Background → List (List (List ℕ))
names_of_background None = []
names_of_background (Some b) = b.templates ∷ []

-- the templates' names of each step analysis
abbrev pub step_analyses : ServiceSpec → List (List (List ℕ))
step_analyses s = filter_map names_of_step s.steps

-- the templates' names of each analysis, of these steps and this background
abbrev pub analyses_in : List Step → Option Background → List (List (List ℕ))
analyses_in steps background = filter_map names_of_step steps ++ names_of_background background

-- the templates' names of each analysis
abbrev pub analyses : ServiceSpec → List (List (List ℕ))
analyses s = analyses_in s.steps s.background

abbrev pub is_bad_strategy : ServiceSpec → Bool
is_bad_strategy s =
    nat_lt 64 (length s.steps)
    || not (list_all is_within_limits s.steps && is_background_within_limits s.background)

-- why a service's strategy is refused
abbrev pub strategy_refusal : Templates → ServiceSpec → Option Refusal
strategy_refusal known s =
    first_that_holds (
    (list_any (has_unknown known) (analyses s), UnknownTemplate)
    ∷ (is_bad_strategy s, BadStrategy)
    ∷ []
    )

-- two metrics of one name among the templates of an analysis
abbrev pub repeats_metric : Templates → List (List ℕ) → Bool
repeats_metric known names =
    has_duplicate (map (λ (m : MetricValue). m.name) (metrics_named known names))

-- a metric that has no effective count, and that no number of successes in a row completes
abbrev pub is_without_end : MetricValue → Bool
is_without_end m = is_none (effective_count m) && is_none m.pass_after

-- a metric without end, dry-run or not
abbrev pub is_endless : Templates → List (List ℕ) → Bool
is_endless known names =
    list_any is_without_end (metrics_named known names)

-- not 1 to 32 metrics, or a template that isn't known
abbrev pub is_unfit : Templates → List (List ℕ) → Bool
is_unfit known names = not (binds known names)

-- why a strategy is not bound to the templates that are known
abbrev pub bound_refusal : Templates → CheckedStrategy → Option Refusal
bound_refusal known s =
    first_that_holds (
    (list_any (repeats_metric known) (analyses_in s.steps s.background), DuplicateMetric)
    ∷ (list_any (is_endless known) (filter_map names_of_step s.steps), EndlessMetric)
    ∷ (list_any (is_unfit known) (analyses_in s.steps s.background), BadStrategy)
    ∷ []
    )
