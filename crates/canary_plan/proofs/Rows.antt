-- Worked templates and strategies, computed on the definitions, so that a wrong rule in a definition does not check.
use Rattle.std.proofs.Common.{◌≡◌, ℕ, zero, suc, List, [], ◌∷◌, Some, None, true, false, refl, pos, map}
use Rattle.std.specs.Prelude.{codes, replicate, if◌then◌else◌, Option, option_map}
use Rattle.std.specs.Str.{bytes_eq}
use Rattle.canary_condition.specs.declared.condition.Comparison.TheVariants.{Less, Greater}
use Rattle.canary_condition.specs.declared.condition.Operand.TheVariants.{Whole, Number}
use Rattle.canary_condition.specs.Trees.Tree.{Compare}
use Rattle.canary_metric.specs.Metrics.{MetricValue}
use Rattle.canary_plan.specs.declared.step.Step.{Step}
use Rattle.canary_plan.specs.declared.step.Step.TheVariants.{SetWeight, Pause, Analysis}
use Rattle.canary_plan.specs.declared.service.Background.{Background}
use Rattle.canary_plan.specs.declared.service.ServiceSpec.{ServiceSpec}
use Rattle.canary_plan.specs.declared.analysis_parts.Revision.{Revision}
use Rattle.canary_plan.specs.declared.analysis_parts.AnalysisParts.{AnalysisParts}
use Rattle.canary_plan.specs.declared.bound.BoundParts.{BoundParts}
use Rattle.canary_plan.specs.declared.template_spec.MetricSpec.{MetricSpec}
use Rattle.canary_plan.specs.declared.template_spec.TemplateSpec.{TemplateSpec}
use Rattle.canary_plan.specs.declared.refusal.Refusal.TheVariants.{BadCondition, IntervalNeeded, DuplicateMetric, BadDryRun, UnknownTemplate, EndlessMetric, BadStrategy, RevisionsSpent}
use Rattle.canary_plan.specs.Conditions.{condition_of}
use Rattle.canary_plan.specs.Plans.{Templates, template_of, strategy_of, bound_of, unbound, analysis_at, analysis_or_none, metrics_at, all_revisions, distinct, is_marked}
use Rattle.canary_plan.specs.PlanRefusals.{template_refusal, strategy_refusal, bound_refusal}
use Rattle.canary_plan.specs.Refusals.{code_of}

-- Conditions.

above_10 : condition_of (codes "result > 10") ≡ Some (Compare Whole Greater (Number (pos 10)))
above_10 = refl

no_right_side : condition_of (codes "result >") ≡ None
no_right_side = refl

no_decimals : condition_of (codes "result > 0.5") ≡ None
no_decimals = refl

too_long : condition_of (replicate 1025 32) ≡ None
too_long = refl

-- Templates.

abbrev metric : List ℕ → MetricSpec
metric name =
    record {
      name = name;
      success = None;
      failure = None;
      interval = None;
      initial_delay = 0;
      count = None;
      pass_after = None;
      failure_limit = 0;
      inconclusive_limit = 0;
      consecutive_error_limit = 4;
      within = refl;
    }

abbrev one : MetricSpec → TemplateSpec
one m = record { name = codes "t"; metrics = m ∷ []; dry_run = []; within = refl }

abbrev two : MetricSpec → MetricSpec → List (List ℕ) → TemplateSpec
two m n dry_run = record { name = codes "t"; metrics = m ∷ n ∷ []; dry_run = dry_run; within = refl }

-- success above 10, failure below 5
abbrev spread : TemplateSpec
spread = one (record (metric (codes "m")) { success = Some (codes "result > 10"); failure = Some (codes "result < 5"); within = refl })

spread_is_bound : template_refusal spread ≡ None
spread_is_bound = refl

spread_failure : map (λ (m : MetricValue). m.failure) (template_of spread 1).metrics ≡ Some (Compare Whole Less (Number (pos 5))) ∷ []
spread_failure = refl

-- a metric that wants three measurements and has no interval
abbrev thrice : MetricSpec
thrice = record (metric (codes "m")) { count = Some 3; within = refl }

abbrev unread : MetricSpec
unread = record (metric (codes "m")) { failure = Some (codes "result >"); within = refl }

interval_needed : template_refusal (one thrice) ≡ Some IntervalNeeded
interval_needed = refl

once_needs_none : template_refusal (one (record (metric (codes "m")) { count = Some 1; within = refl })) ≡ None
once_needs_none = refl

-- in order: a bad condition, an interval that is needed, a name twice, a name that is no metric
bad_condition_first : template_refusal (two thrice unread (codes "x" ∷ [])) ≡ Some BadCondition
bad_condition_first = refl

interval_second : template_refusal (two thrice (metric (codes "m")) (codes "x" ∷ [])) ≡ Some IntervalNeeded
interval_second = refl

duplicate_third : template_refusal (two (metric (codes "m")) (metric (codes "m")) (codes "x" ∷ [])) ≡ Some DuplicateMetric
duplicate_third = refl

foreign_last : template_refusal (two (metric (codes "m")) (metric (codes "n")) (codes "n" ∷ codes "x" ∷ [])) ≡ Some BadDryRun
foreign_last = refl

all_are_marked : template_refusal (two (metric (codes "m")) (metric (codes "n")) (codes ".*" ∷ [])) ≡ None
all_are_marked = refl

one_is_marked : map (λ (m : MetricValue). m.dry_run) (template_of (two (metric (codes "m")) (metric (codes "n")) (codes "n" ∷ [])) 1).metrics ≡ false ∷ true ∷ []
one_is_marked = refl

marked_by_all : is_marked (codes ".*" ∷ []) (codes "m") ≡ true
marked_by_all = refl

-- Strategies: `t` is the third revision of the template above, `errs` is measured each minute, and `u` is not known.

abbrev each_minute : TemplateSpec
each_minute = record { name = codes "errs"; metrics = record (metric (codes "e")) { interval = Some 60; within = refl } ∷ []; dry_run = []; within = refl }

abbrev known : Templates
known name =
    if bytes_eq name (codes "t") then Some (template_of spread 3) else (if bytes_eq name (codes "errs") then Some (template_of each_minute 1) else None)

-- `n` metrics whose names are different bytes
abbrev some_metrics : ℕ → ℕ → List MetricSpec
some_metrics byte zero = []
some_metrics byte (suc n) = metric (byte ∷ []) ∷ some_metrics (suc byte) n

abbrev of_32 : TemplateSpec
of_32 = record { name = codes "big"; metrics = some_metrics 200 32; dry_run = []; within = refl }

-- with `big`, which has 32 metrics
abbrev more : Templates
more name = if bytes_eq name (codes "big") then Some (template_of of_32 1) else known name

abbrev web : List Step → Option Background → ServiceSpec
web steps background = record { name = codes "web"; version = codes "v1"; steps = steps; background = background }

abbrev behind : List (List ℕ) → Option Background
behind names = Some (record { templates = names; starting_step = 0 })

abbrev step_of : List (List ℕ) → List Step
step_of names = SetWeight 10 ∷ Analysis names ∷ SetWeight 60 ∷ Pause None ∷ []

two_pauses : strategy_refusal known (web (SetWeight 20 ∷ Pause None ∷ SetWeight 50 ∷ Pause None ∷ []) None) ≡ None
two_pauses = refl

no_steps : strategy_refusal known (web [] None) ≡ None
no_steps = refl

in_a_step : strategy_refusal known (web (step_of (codes "t" ∷ [])) None) ≡ None
in_a_step = refl

-- a template twice is seen as an attempt begins
twice_in_a_step : strategy_refusal known (web (step_of (codes "t" ∷ codes "t" ∷ [])) None) ≡ None
twice_in_a_step = refl

twice_as_it_begins : bound_refusal known (strategy_of (web (step_of (codes "t" ∷ codes "t" ∷ [])) None)) ≡ Some DuplicateMetric
twice_as_it_begins = refl

-- the analysis of the step, by the revision that is known
abbrev bound_step_at_1 : Option AnalysisParts
bound_step_at_1 = analysis_at (bound_of known (strategy_of (web (step_of (codes "t" ∷ [])) None))) (Some 1)

revisions_of_the_step : option_map (λ (a : AnalysisParts). a.revisions) bound_step_at_1 ≡ Some (record { template = codes "t"; number = 3 } ∷ [])
revisions_of_the_step = refl

metrics_of_the_step : option_map (map (λ (m : MetricValue). m.name)) (metrics_at (bound_of known (strategy_of (web (step_of (codes "t" ∷ [])) None))) (Some 1)) ≡ Some (codes "m" ∷ [])
metrics_of_the_step = refl

none_of_a_weight : metrics_at (bound_of known (strategy_of (web (step_of (codes "t" ∷ [])) None))) (Some 0) ≡ None
none_of_a_weight = refl

none_of_an_unknown : metrics_at (bound_of known (strategy_of (web (step_of (codes "t" ∷ codes "u" ∷ [])) None))) (Some 1) ≡ None
none_of_an_unknown = refl

none_unbound : metrics_at (unbound (strategy_of (web (step_of (codes "t" ∷ [])) None))) (Some 1) ≡ None
none_unbound = refl

-- a background may be measured without end, and a step may not
in_the_background : bound_refusal known (strategy_of (web (SetWeight 20 ∷ Pause None ∷ []) (behind (codes "errs" ∷ [])))) ≡ None
in_the_background = refl

metrics_behind : option_map (map (λ (m : MetricValue). m.name)) (metrics_at (bound_of known (strategy_of (web [] (behind (codes "errs" ∷ []))))) None) ≡ Some (codes "e" ∷ [])
metrics_behind = refl

endless_in_a_step : bound_refusal known (strategy_of (web (step_of (codes "errs" ∷ [])) None)) ≡ Some EndlessMetric
endless_in_a_step = refl

-- it is not refused before an attempt begins
endless_as_asked : strategy_refusal known (web (step_of (codes "errs" ∷ [])) None) ≡ None
endless_as_asked = refl

-- if so many successes in a row complete it, it may be in a step
abbrev passing : Templates
passing name = Some (template_of (one (record (metric (codes "e")) { interval = Some 60; pass_after = Some 2; within = refl })) 1)

passed_in_a_step : bound_refusal passing (strategy_of (web (step_of (codes "errs" ∷ [])) None)) ≡ None
passed_in_a_step = refl

-- in order: a template that is not there, and a bad strategy; a name twice and a metric without end are not looked for
unknown_first : strategy_refusal known (web (SetWeight 101 ∷ Analysis (codes "errs" ∷ codes "u" ∷ codes "errs" ∷ []) ∷ []) None) ≡ Some UnknownTemplate
unknown_first = refl

bad_second : strategy_refusal known (web (SetWeight 101 ∷ Analysis (codes "errs" ∷ []) ∷ []) None) ≡ Some BadStrategy
bad_second = refl

-- as an attempt begins, in order: a name twice, a metric without end, and more than 32 metrics
duplicate_first : bound_refusal more (strategy_of (web (Analysis (codes "errs" ∷ codes "errs" ∷ codes "big" ∷ []) ∷ []) None)) ≡ Some DuplicateMetric
duplicate_first = refl

endless_second : bound_refusal more (strategy_of (web (Analysis (codes "errs" ∷ codes "big" ∷ []) ∷ []) None)) ≡ Some EndlessMetric
endless_second = refl

of_33_metrics : bound_refusal more (strategy_of (web [] (behind (codes "errs" ∷ codes "big" ∷ [])))) ≡ Some BadStrategy
of_33_metrics = refl

of_32_metrics : bound_refusal more (strategy_of (web [] (behind (codes "big" ∷ [])))) ≡ None
of_32_metrics = refl

weight_101 : strategy_refusal known (web (SetWeight 101 ∷ []) None) ≡ Some BadStrategy
weight_101 = refl

weight_100 : strategy_refusal known (web (SetWeight 100 ∷ []) None) ≡ None
weight_100 = refl

of_64_steps : strategy_refusal known (web (replicate 64 (Pause None)) None) ≡ None
of_64_steps = refl

of_65_steps : strategy_refusal known (web (replicate 65 (Pause None)) None) ≡ Some BadStrategy
of_65_steps = refl

of_no_template : strategy_refusal known (web (step_of []) None) ≡ Some BadStrategy
of_no_template = refl

-- if each template has a metric of its name
abbrev each_its_own : Templates
each_its_own name = Some (template_of (one (metric name)) 1)

abbrev eight : List (List ℕ)
eight = codes "a" ∷ codes "b" ∷ codes "c" ∷ codes "d" ∷ codes "e" ∷ codes "f" ∷ codes "g" ∷ codes "h" ∷ []

of_8_templates : strategy_refusal each_its_own (web [] (behind eight)) ≡ None
of_8_templates = refl

of_9_templates : strategy_refusal each_its_own (web [] (behind (codes "i" ∷ eight))) ≡ Some BadStrategy
of_9_templates = refl

-- What a binding names.

abbrev in_three_places : BoundParts
in_three_places =
    bound_of known (strategy_of (web (Analysis (codes "errs" ∷ codes "t" ∷ []) ∷ Pause None ∷ Analysis (codes "t" ∷ []) ∷ []) (behind (codes "errs" ∷ []))))

abbrev t_3 : Revision
t_3 = record { template = codes "t"; number = 3 }

abbrev errs_1 : Revision
errs_1 = record { template = codes "errs"; number = 1 }

each_time : all_revisions in_three_places ≡ errs_1 ∷ t_3 ∷ t_3 ∷ errs_1 ∷ []
each_time = refl

once_each : distinct (all_revisions in_three_places) ≡ errs_1 ∷ t_3 ∷ []
once_each = refl

-- of two revisions of a template the first is kept
first_is_kept : distinct (t_3 ∷ errs_1 ∷ record { template = codes "t"; number = 2 } ∷ []) ≡ t_3 ∷ errs_1 ∷ []
first_is_kept = refl

none_is_named : all_revisions (unbound (strategy_of (web (step_of (codes "t" ∷ [])) None))) ≡ []
none_is_named = refl

no_metrics_unbound : (analysis_or_none (unbound (strategy_of (web (step_of (codes "t" ∷ [])) None))) (Some 1)).metrics ≡ []
no_metrics_unbound = refl

-- Codes.

code : code_of BadStrategy ≡ codes "bad-strategy"
code = refl

revisions_code : code_of RevisionsSpent ≡ codes "revisions-spent"
revisions_code = refl
