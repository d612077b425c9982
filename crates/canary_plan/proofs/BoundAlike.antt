-- What refuses a strategy, and what it is bound to, are the same by templates that agree on the names that it has.
use Rattle.std.proofs.Common.{◌≡◌, ℕ, List, [], ◌∷◌, ◌++◌, refl, ap}
use Rattle.std.specs.Prelude.{◌||◌, ◌&&◌, not, if◌then◌else◌, Bool, map, Option, Some, None, is_none}
use Rattle.std.specs.List.{AllByRecursion, list_any, filter_map}
use Rattle.canary_metric.specs.Metrics.{MetricValue}
use Rattle.canary_plan.specs.declared.step.Step.{Step}
use Rattle.canary_plan.specs.declared.step.Step.TheVariants.{SetWeight, Pause, Analysis}
use Rattle.canary_plan.specs.declared.service.Background.{Background}
use Rattle.canary_plan.specs.declared.service.ServiceSpec.{ServiceSpec}
use Rattle.canary_plan.specs.declared.strategy.CheckedStrategy.{CheckedStrategy}
use Rattle.canary_plan.specs.declared.analysis_parts.AnalysisParts.{AnalysisParts}
use Rattle.canary_plan.specs.declared.refusal.Refusal.TheVariants.{DuplicateMetric, UnknownTemplate, EndlessMetric, BadStrategy}
use Rattle.canary_plan.specs.Fit.{are_metrics_of_run}
use Rattle.canary_plan.specs.Plans.{Templates, Agree, metrics_in, metrics_named, revisions_in, revisions_named, has_unknown, binds, analysis_of, bound_step, bound_background, bound_of}
use Rattle.canary_plan.specs.Refusals.{first_that_holds}
use Rattle.canary_plan.specs.PlanRefusals.{has_duplicate, repeats_metric, is_without_end, is_endless, is_unfit, names_of_step, names_of_background, analyses_in, analyses, is_bad_strategy, strategy_refusal, bound_refusal}
use Rattle.canary_plan.specs.Commands.{all_names}

pub all_left : {X : Type 0} (P : X → Type 0) (xs ys : List X) → AllByRecursion P (xs ++ ys) → AllByRecursion P xs
all_left P [] ys h = tt
all_left P (x ∷ xs) ys h = (h.0, all_left P xs ys h.1)

pub all_right : {X : Type 0} (P : X → Type 0) (xs ys : List X) → AllByRecursion P (xs ++ ys) → AllByRecursion P ys
all_right P [] ys h = h
all_right P (x ∷ xs) ys h = all_right P xs ys h.1

-- what holds of all names holds of those of each analysis
pub each : (P : List ℕ → Type 0) (xs : List (List (List ℕ))) → AllByRecursion P (all_names xs) → AllByRecursion (AllByRecursion P) xs
each P [] h = tt
each P (x ∷ xs) h = (all_left P x (all_names xs) h, each P xs (all_right P x (all_names xs) h))

any_alike : {X : Type 0} (P : X → Type 0) (f g : X → Bool) → ((x : X) → P x → f x ≡ g x) → (xs : List X) → AllByRecursion P xs → list_any f xs ≡ list_any g xs
any_alike P f g same [] h = refl
any_alike P f g same (x ∷ xs) h = λ i. same x h.0 i || any_alike P f g same xs h.1 i

-- One analysis.

pub metrics_alike : (known other : Templates) (names : List (List ℕ)) → Agree known other names → metrics_named known names ≡ metrics_named other names
metrics_alike known other [] h = refl
metrics_alike known other (n ∷ ns) h = λ i. metrics_in (h.0 i) ++ metrics_alike known other ns h.1 i

pub revisions_alike : (known other : Templates) (names : List (List ℕ)) → Agree known other names → revisions_named known names ≡ revisions_named other names
revisions_alike known other [] h = refl
revisions_alike known other (n ∷ ns) h = λ i. revisions_in n (h.0 i) ++ revisions_alike known other ns h.1 i

pub unknown_alike : (known other : Templates) (names : List (List ℕ)) → Agree known other names → has_unknown known names ≡ has_unknown other names
unknown_alike known other names h = any_alike (λ name. known name ≡ other name) (λ name. is_none (known name)) (λ name. is_none (other name)) (λ name e i. is_none (e i)) names h

repeats : (known other : Templates) (names : List (List ℕ)) → Agree known other names → repeats_metric known names ≡ repeats_metric other names
repeats known other names h = ap (λ (ms : List MetricValue). has_duplicate (map (λ (m : MetricValue). m.name) ms)) (metrics_alike known other names h)

endless : (known other : Templates) (names : List (List ℕ)) → Agree known other names → is_endless known names ≡ is_endless other names
endless known other names h = ap (λ (ms : List MetricValue). list_any is_without_end ms) (metrics_alike known other names h)

pub binds_alike : (known other : Templates) (names : List (List ℕ)) → Agree known other names → binds known names ≡ binds other names
binds_alike known other names h =
    let unknown = unknown_alike known other names h in
    let metrics = metrics_alike known other names h in
    λ i. not (unknown i) && are_metrics_of_run (metrics i)

unfit : (known other : Templates) (names : List (List ℕ)) → Agree known other names → is_unfit known names ≡ is_unfit other names
unfit known other names h = ap not (binds_alike known other names h)

pub analysis_alike : (known other : Templates) (names : List (List ℕ)) → Agree known other names → analysis_of known names ≡ analysis_of other names
analysis_alike known other names h =
    let binding = binds_alike known other names h in
    let revisions = revisions_alike known other names h in
    let metrics = metrics_alike known other names h in
    λ i. if binding i then Some (record { revisions = revisions i; metrics = metrics i }) else None

-- A strategy, by templates that agree on the names of each analysis.

refused : (known other : Templates) (s : ServiceSpec) → AllByRecursion (Agree known other) (analyses s) → strategy_refusal known s ≡ strategy_refusal other s
refused known other s h =
    let unknown = any_alike (Agree known other) (has_unknown known) (has_unknown other) (unknown_alike known other) (analyses s) h in
    λ i. first_that_holds ((unknown i, UnknownTemplate) ∷ (is_bad_strategy s, BadStrategy) ∷ [])

not_bound : (known other : Templates) (s : CheckedStrategy) → AllByRecursion (Agree known other) (analyses_in s.steps s.background) → bound_refusal known s ≡ bound_refusal other s
not_bound known other s h =
    let all = analyses_in s.steps s.background in
    let steps = filter_map names_of_step s.steps in
    let in_steps = all_left (Agree known other) steps (names_of_background s.background) h in
    let a = any_alike (Agree known other) (repeats_metric known) (repeats_metric other) (repeats known other) all h in
    let b = any_alike (Agree known other) (is_endless known) (is_endless other) (endless known other) steps in_steps in
    let c = any_alike (Agree known other) (is_unfit known) (is_unfit other) (unfit known other) all h in
    λ i. first_that_holds ((a i, DuplicateMetric) ∷ (b i, EndlessMetric) ∷ (c i, BadStrategy) ∷ [])

steps_alike : (known other : Templates) (steps : List Step) → AllByRecursion (Agree known other) (filter_map names_of_step steps) → map (bound_step known) steps ≡ map (bound_step other) steps
steps_alike known other [] h = refl
steps_alike known other (SetWeight percent ∷ steps) h = ap (λ (rest : List (Option AnalysisParts)). None ∷ rest) (steps_alike known other steps h)
steps_alike known other (Pause seconds ∷ steps) h = ap (λ (rest : List (Option AnalysisParts)). None ∷ rest) (steps_alike known other steps h)
steps_alike known other (Analysis names ∷ steps) h = λ i. analysis_alike known other names h.0 i ∷ steps_alike known other steps h.1 i

background_alike : (known other : Templates) (b : Option Background) → AllByRecursion (Agree known other) (names_of_background b) → bound_background known b ≡ bound_background other b
background_alike known other None h = refl
background_alike known other (Some b) h = analysis_alike known other b.templates h.0

bound : (known other : Templates) (s : CheckedStrategy) → AllByRecursion (Agree known other) (analyses_in s.steps s.background) → bound_of known s ≡ bound_of other s
bound known other s h =
    let names = filter_map names_of_step s.steps in
    let steps = steps_alike known other s.steps (all_left (Agree known other) names (names_of_background s.background) h) in
    let background = background_alike known other s.background (all_right (Agree known other) names (names_of_background s.background) h) in
    λ i. record { steps = steps i; background = background i }

-- A strategy, by templates that agree on all names of its analyses.

pub refusal_alike : (known other : Templates) (s : ServiceSpec) → Agree known other (all_names (analyses s)) → strategy_refusal known s ≡ strategy_refusal other s
refusal_alike known other s h = refused known other s (each (λ name. known name ≡ other name) (analyses s) h)

pub bound_refusal_alike : (known other : Templates) (s : CheckedStrategy) → Agree known other (all_names (analyses_in s.steps s.background)) → bound_refusal known s ≡ bound_refusal other s
bound_refusal_alike known other s h = not_bound known other s (each (λ name. known name ≡ other name) (analyses_in s.steps s.background) h)

pub bound_alike : (known other : Templates) (s : CheckedStrategy) → Agree known other (all_names (analyses_in s.steps s.background)) → bound_of known s ≡ bound_of other s
bound_alike known other s h = bound known other s (each (λ name. known name ≡ other name) (analyses_in s.steps s.background) h)
