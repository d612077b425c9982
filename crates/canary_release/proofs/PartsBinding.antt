-- A strategy that is not refused is bound, each analysis to its own templates, and to such as parts
-- may be bound to.
use Rattle.std.proofs.Common.{◌≡◌, ℕ, suc, List, [], ◌∷◌, ◌++◌, length, refl, ap, ◌∙◌, arith}
use Rattle.std.specs.Prelude.{Bool, true, false, not, ◌||◌, ◌==◌, if◌then◌else◌, map, is_none, Option, Some, None}
use Rattle.std.specs.List.{list_any, list_all, filter_map}
use Rattle.std.specs.Str.{bytes_eq}
use Rattle.std.specs.Cmp.Lexicographic.{pointwise}
use Rattle.std.proofs.lemmas.Bool.Decides.{nat_tests}
use Rattle.std.proofs.lemmas.Slice.Eq.{bytes_eq-Decides}
use Rattle.canary_plan.specs.declared.step.Step.{Step}
use Rattle.canary_plan.specs.declared.step.Step.TheVariants.{SetWeight, Pause, Analysis}
use Rattle.canary_plan.specs.declared.service.Background.{Background}
use Rattle.canary_plan.specs.declared.service.ServiceSpec.{ServiceSpec}
use Rattle.canary_plan.specs.declared.template.Template.{Template}
use Rattle.canary_plan.specs.declared.strategy.CheckedStrategy.{CheckedStrategy}
use Rattle.canary_plan.specs.declared.analysis_parts.Revision.{Revision}
use Rattle.canary_plan.specs.declared.analysis_parts.AnalysisParts.{AnalysisParts}
use Rattle.canary_plan.specs.declared.bound.BoundParts.{BoundParts}
use Rattle.canary_plan.specs.declared.refusal.Refusal.TheVariants.{DuplicateMetric, EndlessMetric, BadStrategy}
use Rattle.canary_plan.specs.Fit.{are_metrics_of_run}
use Rattle.canary_plan.specs.Plans.{Templates, no_templates, has_unknown, metrics_named, revisions_in, revisions_named, binds, analysis_of, bound_step, bound_background, bound_of, unbound}
use Rattle.canary_plan.specs.PlanRefusals.{names_of_step, names_of_background, analyses_in, repeats_metric, is_endless, is_unfit, bound_refusal}
use Rattle.canary_plan.specs.Commands.{same_names}
use Rattle.canary_release.specs.declared.state.ServiceState.{ServiceState}
use Rattle.canary_release.specs.Desks.{new_service_state}
use Rattle.canary_release.specs.Parts.{is_bound_to, is_step_bound, is_background_bound, is_bound, is_unbound, repeats_metric_in, has_endless, is_refused, is_misbound}
use Rattle.canary_release.proofs.OrderingBasics.{row_false, not_false}
use Rattle.canary_release.proofs.PartsLists.{or_left, or_right, neither}
use Rattle.canary_release.proofs.PartsFresh.{and_left, and_right}

-- What a strategy is that is not refused.

record NotRefused (known : Templates) (s : CheckedStrategy) : Type 0 where
  distinct : list_any (repeats_metric known) (analyses_in s.steps s.background) ≡ false
  ending : list_any (is_endless known) (filter_map names_of_step s.steps) ≡ false
  fit : list_any (is_unfit known) (analyses_in s.steps s.background) ≡ false

not_refused : (known : Templates) (s : CheckedStrategy) → bound_refusal known s ≡ None → NotRefused known s
not_refused known s h =
    let all = analyses_in s.steps s.background in
    let endless : Bool = list_any (is_endless known) (filter_map names_of_step s.steps) in
    let unfit : Bool = list_any (is_unfit known) all in
    let first = row_false (list_any (repeats_metric known) all) DuplicateMetric ((endless, EndlessMetric) ∷ (unfit, BadStrategy) ∷ []) h in
    let second = row_false endless EndlessMetric ((unfit, BadStrategy) ∷ []) first.1 in
    let third = row_false unfit BadStrategy [] second.1 in
    record { distinct = first.0; ending = second.0; fit = third.0 }

none_front : (test : List (List ℕ) → Bool) (xs ys : List (List (List ℕ))) → list_any test (xs ++ ys) ≡ false → list_any test xs ≡ false
none_front test [] ys h = refl
none_front test (x ∷ xs) ys h = neither (test x) (list_any test xs) (or_left (test x) (list_any test (xs ++ ys)) h) (none_front test xs ys (or_right (test x) (list_any test (xs ++ ys)) h))

none_back : (test : List (List ℕ) → Bool) (xs ys : List (List (List ℕ))) → list_any test (xs ++ ys) ≡ false → list_any test ys ≡ false
none_back test [] ys h = h
none_back test (x ∷ xs) ys h = none_back test xs ys (or_right (test x) (list_any test (xs ++ ys)) h)

-- Each analysis is bound, to its own templates.

same_name : (name : List ℕ) → bytes_eq name name ≡ true
same_name name = (bytes_eq-Decides name name).1 refl

one_named : (name : List ℕ) (names : List (List ℕ)) (rs : List Revision) (o : Option Template) → is_none o ≡ false → same_names names (map (λ (r : Revision). r.template) rs) ≡ true → same_names (name ∷ names) (map (λ (r : Revision). r.template) (revisions_in name o ++ rs)) ≡ true
one_named name names rs None e h = cc e
one_named name names rs (Some t) e h = rw (same_name name) h

named_same : (known : Templates) (names : List (List ℕ)) → has_unknown known names ≡ false → same_names names (map (λ (r : Revision). r.template) (revisions_named known names)) ≡ true
named_same known [] h = refl
named_same known (name ∷ names) h = one_named name names (revisions_named known names) (known name) (or_left (is_none (known name)) (has_unknown known names) h) (named_same known names (or_right (is_none (known name)) (has_unknown known names) h))

binds_known : (known : Templates) (names : List (List ℕ)) → binds known names ≡ true → has_unknown known names ≡ false
binds_known known names h = by (has_unknown known names) (and_left (not (has_unknown known names)) (are_metrics_of_run (metrics_named known names)) h)
  where
    by : (u : Bool) → not u ≡ true → u ≡ false
    by true e = cc e
    by false e = refl

bound_to : (known : Templates) (names : List (List ℕ)) → is_unfit known names ≡ false → is_bound_to names (analysis_of known names) ≡ true
bound_to known names h =
    let binding = not_false (binds known names) h in
    rw binding (named_same known names (binds_known known names binding))

steps_bound : (known : Templates) (steps : List Step) → list_any (is_unfit known) (filter_map names_of_step steps) ≡ false → pointwise is_step_bound steps (map (bound_step known) steps) ≡ true
steps_bound known [] h = refl
steps_bound known (SetWeight percent ∷ steps) h = steps_bound known steps h
steps_bound known (Pause seconds ∷ steps) h = steps_bound known steps h
steps_bound known (Analysis names ∷ steps) h =
    let rest = list_any (is_unfit known) (filter_map names_of_step steps) in
    rw (bound_to known names (or_left (is_unfit known names) rest h)) (steps_bound known steps (or_right (is_unfit known names) rest h))

behind_bound : (known : Templates) (b : Option Background) → list_any (is_unfit known) (names_of_background b) ≡ false → is_background_bound b (bound_background known b) ≡ true
behind_bound known None h = refl
behind_bound known (Some b) h = bound_to known b.templates (or_left (is_unfit known b.templates) false h)

pub bound_where_not_refused : (known : Templates) (s : ServiceState) → bound_refusal known s.strategy ≡ None → is_bound (record s { bound = bound_of known s.strategy }) ≡ true
bound_where_not_refused known s h =
    let n = not_refused known s.strategy h in
    let steps = filter_map names_of_step s.strategy.steps in
    let behind = names_of_background s.strategy.background in
    rw (steps_bound known s.strategy.steps (none_front (is_unfit known) steps behind n.fit)) (behind_bound known s.strategy.background (none_back (is_unfit known) steps behind n.fit))

-- No two metrics of an analysis have one name, and none of a step's is without end.

distinct_in : (known : Templates) (names : List (List ℕ)) → repeats_metric known names ≡ false → repeats_metric_in (analysis_of known names) ≡ false
distinct_in known names h =
    elim (binds known names)
    as (λ b. repeats_metric_in (if b then Some (record { revisions = revisions_named known names; metrics = metrics_named known names }) else None) ≡ false)
    [ true ↦ h | false ↦ refl ]

ending_in : (known : Templates) (names : List (List ℕ)) → is_endless known names ≡ false → has_endless (analysis_of known names) ≡ false
ending_in known names h =
    elim (binds known names)
    as (λ b. has_endless (if b then Some (record { revisions = revisions_named known names; metrics = metrics_named known names }) else None) ≡ false)
    [ true ↦ h | false ↦ refl ]

-- what holds of no analysis of the steps holds of nothing that is bound at them
none_at_steps : (known : Templates) (p : List (List ℕ) → Bool) (q : Option AnalysisParts → Bool) → q None ≡ false → ((names : List (List ℕ)) → p names ≡ false → q (analysis_of known names) ≡ false)
    → (steps : List Step) → list_any p (filter_map names_of_step steps) ≡ false → list_any q (map (bound_step known) steps) ≡ false
none_at_steps known p q none each [] h = refl
none_at_steps known p q none each (SetWeight percent ∷ steps) h = neither (q None) (list_any q (map (bound_step known) steps)) none (none_at_steps known p q none each steps h)
none_at_steps known p q none each (Pause seconds ∷ steps) h = neither (q None) (list_any q (map (bound_step known) steps)) none (none_at_steps known p q none each steps h)
none_at_steps known p q none each (Analysis names ∷ steps) h =
    let rest = list_any p (filter_map names_of_step steps) in
    neither (q (analysis_of known names)) (list_any q (map (bound_step known) steps)) (each names (or_left (p names) rest h)) (none_at_steps known p q none each steps (or_right (p names) rest h))

distinct_behind : (known : Templates) (b : Option Background) → list_any (repeats_metric known) (names_of_background b) ≡ false → repeats_metric_in (bound_background known b) ≡ false
distinct_behind known None h = refl
distinct_behind known (Some b) h = distinct_in known b.templates (or_left (repeats_metric known b.templates) false h)

pub never_refused : (known : Templates) (s : CheckedStrategy) → bound_refusal known s ≡ None → is_refused (bound_of known s) ≡ false
never_refused known s h =
    let n = not_refused known s h in
    let b : BoundParts = bound_of known s in
    let steps = filter_map names_of_step s.steps in
    let behind = names_of_background s.background in
    neither (list_any repeats_metric_in b.steps) (repeats_metric_in b.background || list_any has_endless b.steps)
    (none_at_steps known (repeats_metric known) repeats_metric_in refl (distinct_in known) s.steps (none_front (repeats_metric known) steps behind n.distinct))
    (neither (repeats_metric_in b.background) (list_any has_endless b.steps)
    (distinct_behind known s.background (none_back (repeats_metric known) steps behind n.distinct))
    (none_at_steps known (is_endless known) has_endless refl (ending_in known) s.steps n.ending))

-- A new service is bound to nothing.

none_bound : (steps : List Step) → list_all (λ (a : Option AnalysisParts). is_none a) (map (bound_step no_templates) steps) ≡ true
none_bound [] = refl
none_bound (SetWeight percent ∷ steps) = none_bound steps
none_bound (Pause seconds ∷ steps) = none_bound steps
none_bound (Analysis [] ∷ steps) = none_bound steps
none_bound (Analysis (name ∷ names) ∷ steps) = none_bound steps

none_behind : (b : Option Background) → is_none (bound_background no_templates b) ≡ true
none_behind None = refl
none_behind (Some b) = by b.templates
  where
    by : (names : List (List ℕ)) → is_none (analysis_of no_templates names) ≡ true
    by [] = refl
    by (name ∷ names) = refl

as_long : (steps : List Step) → length (map (bound_step no_templates) steps) ≡ length steps
as_long [] = refl
as_long (step ∷ steps) = ap suc (as_long steps)

itself : (n : ℕ) → (n == n) ≡ true
itself n = grind (arith, nat_tests)

as_many : (steps : List Step) → (length (map (bound_step no_templates) steps) == length steps) ≡ true
as_many steps = ap (λ n. n == length steps) (as_long steps) ∙ itself (length steps)

-- what holds of no analysis that is not there
none_of_none : (q : Option AnalysisParts → Bool) → q None ≡ false → (o : Option AnalysisParts) → is_none o ≡ true → q o ≡ false
none_of_none q none None h = none
none_of_none q none (Some a) h = cc h

none_of_all : (q : Option AnalysisParts → Bool) → q None ≡ false → (as' : List (Option AnalysisParts)) → list_all (λ (a : Option AnalysisParts). is_none a) as' ≡ true → list_any q as' ≡ false
none_of_all q none [] h = refl
none_of_all q none (a ∷ rest) h =
    let here = and_left (is_none a) (list_all (λ (x : Option AnalysisParts). is_none x) rest) h in
    neither (q a) (list_any q rest) (none_of_none q none a here) (none_of_all q none rest (and_right (is_none a) (list_all (λ (x : Option AnalysisParts). is_none x) rest) h))

unbound_not_refused : (s : CheckedStrategy) → is_refused (unbound s) ≡ false
unbound_not_refused s =
    let b : BoundParts = unbound s in
    neither (list_any repeats_metric_in b.steps) (repeats_metric_in b.background || list_any has_endless b.steps)
    (none_of_all repeats_metric_in refl b.steps (none_bound s.steps))
    (neither (repeats_metric_in b.background) (list_any has_endless b.steps)
    (none_of_none repeats_metric_in refl b.background (none_behind s.background))
    (none_of_all has_endless refl b.steps (none_bound s.steps)))

pub new_unbound : (spec : ServiceSpec) (now : ℕ) → is_misbound (new_service_state spec now) ≡ false
new_unbound spec now =
    let s : ServiceState = new_service_state spec now in
    let none : is_unbound s ≡ true = rw (as_many spec.steps, none_bound spec.steps) (none_behind spec.background) in
    neither (not (is_bound s || is_unbound s)) (is_refused s.bound) (either (is_bound s) (is_unbound s) none) (unbound_not_refused s.strategy)
  where
    either : (a u : Bool) → u ≡ true → not (a || u) ≡ false
    either true u h = refl
    either false u h = ap not h
