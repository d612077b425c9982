-- An attempt is bound wholly, to a revision of each template of its strategy, or not at all.
use Rattle.std.proofs.Common.{◌≡◌, inl, inr, ℕ, ◌-◌, List, [], ◌∷◌, ◌++◌, map, Bool, true, false, Some, None, refl, sym, ap, ◌∙◌}
use Rattle.std.specs.Prelude.{◌⊎◌, Option, ◌||◌, ◌&&◌, ◌==◌, not, find, flat_map, length, is_none, is_some}
use Rattle.std.specs.Str.{bytes_eq}
use Rattle.std.specs.List.{list_any, list_all, filter_map, AllByRecursion}
use Rattle.std.specs.Cmp.Lexicographic.{pointwise}
use Rattle.std.proofs.lemmas.Slice.Eq.{bytes_eq-Decides}
use Rattle.std.proofs.lemmas.Grind.{flat_map-append}
use Rattle.std.proofs.lemmas.List.{map-append}
use Rattle.canary_plan.specs.declared.step.Step.{Step}
use Rattle.canary_plan.specs.declared.step.Step.TheVariants.{SetWeight, Pause, Analysis}
use Rattle.canary_plan.specs.declared.service.Background.{Background}
use Rattle.canary_plan.specs.declared.service.ServiceSpec.{ServiceSpec}
use Rattle.canary_plan.specs.declared.template.Template.{Template}
use Rattle.canary_plan.specs.declared.analysis_parts.Revision.{Revision}
use Rattle.canary_plan.specs.declared.analysis_parts.AnalysisParts.{AnalysisParts}
use Rattle.canary_plan.specs.declared.strategy.CheckedStrategy.{CheckedStrategy}
use Rattle.canary_plan.specs.declared.refusal.Refusal.TheVariants.{UnknownTemplate, BadStrategy}
use Rattle.canary_plan.specs.Commands.{all_names}
use Rattle.canary_plan.specs.Plans.{Templates, strategy_of, bound_of, unbound, no_templates, has_unknown, revisions_in, revisions_named, revisions_if, all_revisions}
use Rattle.canary_plan.specs.PlanRefusals.{names_of_step, names_of_background, analyses_in, analyses, is_bad_strategy, strategy_refusal, bound_refusal}
use Rattle.canary_plan.specs.Refusals.{first_that_holds}
use Rattle.canary_plan.proofs.BoundRevisions.{bound_revisions}
use Rattle.canary_release.specs.declared.state.ServiceState.{ServiceState}
use Rattle.canary_release.specs.Services.{is_done}
use Rattle.canary_release.specs.Desks.{ModelService, RevisionMap}
use Rattle.canary_release.specs.Order.{IsInOrder}
use Rattle.canary_release.specs.Parts.{is_bound_to, is_step_bound, is_background_bound, is_bound, is_unbound, is_refused}
use Rattle.canary_release.specs.Stored.{stored_form}
use Rattle.canary_release.proofs.PartsKept.{fit_of}
use Rattle.canary_tables_contents.specs.Tables.{is_of_template}
use Rattle.canary_tables_contents.proofs.BindingsBack.{any_found, IsKnown, all_known}

-- Tests.

pub neither : (a b : Bool) → (a || b) ≡ false → (a ≡ false) × (b ≡ false)
neither true b e = absurd (cc)
neither false b e = (refl, e)

pub both : (a b : Bool) → (a && b) ≡ true → (a ≡ true) × (b ≡ true)
both true b e = (refl, e)
both false b e = absurd (cc)

-- Names.

abbrev pub templates_in : List Revision → List (List ℕ)
templates_in rs = map (λ (r : Revision). r.template) rs

any_named : (name : List ℕ) (rs : List Revision) → list_any (is_of_template name) rs ≡ list_any (bytes_eq name) (templates_in rs)
any_named name [] = refl
any_named name (r ∷ rs) = ap (λ b. bytes_eq name r.template || b) (any_named name rs)

-- revisions of the same templates have the same names
pub same_found : (name : List ℕ) (rs us : List Revision) → templates_in rs ≡ templates_in us → is_some (find (is_of_template name) rs) ≡ is_some (find (is_of_template name) us)
same_found name rs us same =
    sym (any_found (is_of_template name) rs) ∙ any_named name rs ∙ ap (list_any (bytes_eq name)) same ∙ sym (any_named name us) ∙ any_found (is_of_template name) us

-- Bound wholly.

named_so : (names : List (List ℕ)) (o : Option AnalysisParts) → is_bound_to names o ≡ true → templates_in (revisions_if o) ≡ names
named_so names None e = absurd (cc)
named_so names (Some a) e = sym (same names (templates_in a.revisions) e)
  where
    same : (xs ys : List (List ℕ)) → pointwise bytes_eq xs ys ≡ true → xs ≡ ys
    same [] [] e = refl
    same [] (y ∷ ys) e = absurd (cc)
    same (x ∷ xs) [] e = absurd (cc)
    same (x ∷ xs) (y ∷ ys) e = let parts = both (bytes_eq x y) (pointwise bytes_eq xs ys) e in λ i. (bytes_eq-Decides x y).0 parts.0 i ∷ same xs ys parts.1 i

nothing_bound : (o : Option AnalysisParts) → is_none o ≡ true → revisions_if o ≡ []
nothing_bound None e = refl
nothing_bound (Some a) e = absurd (cc)

steps_named : (steps : List Step) (bound : List (Option AnalysisParts)) → pointwise is_step_bound steps bound ≡ true → templates_in (flat_map revisions_if bound) ≡ all_names (filter_map names_of_step steps)
steps_named [] [] e = refl
steps_named [] (b ∷ bound) e = absurd (cc)
steps_named (s ∷ steps) [] e = absurd (cc)
steps_named (SetWeight percent ∷ steps) (b ∷ bound) e =
    let parts = both (is_none b) (pointwise is_step_bound steps bound) e in
    ap (λ (rs : List Revision). templates_in (rs ++ flat_map revisions_if bound)) (nothing_bound b parts.0) ∙ steps_named steps bound parts.1
steps_named (Pause seconds ∷ steps) (b ∷ bound) e =
    let parts = both (is_none b) (pointwise is_step_bound steps bound) e in
    ap (λ (rs : List Revision). templates_in (rs ++ flat_map revisions_if bound)) (nothing_bound b parts.0) ∙ steps_named steps bound parts.1
steps_named (Analysis names ∷ steps) (b ∷ bound) e =
    let parts = both (is_bound_to names b) (pointwise is_step_bound steps bound) e in
    map-append (λ (r : Revision). r.template) (revisions_if b) (flat_map revisions_if bound)
    ∙ (λ i. named_so names b parts.0 i ++ steps_named steps bound parts.1 i)

background_named : (b : Option Background) (o : Option AnalysisParts) → is_background_bound b o ≡ true → templates_in (revisions_if o) ≡ all_names (names_of_background b)
background_named None o e = ap templates_in (nothing_bound o e)
background_named (Some b) o e = named_so b.templates o e ∙ none_behind b.templates
  where
    none_behind : (xs : List (List ℕ)) → xs ≡ xs ++ []
    none_behind [] = refl
    none_behind (x ∷ xs) = ap (λ (ys : List (List ℕ)). x ∷ ys) (none_behind xs)

bound_named : (s : ServiceState) → is_bound s ≡ true → templates_in (all_revisions s.bound) ≡ all_names (analyses_in s.strategy.steps s.strategy.background)
bound_named s e =
    let parts = both (pointwise is_step_bound s.strategy.steps s.bound.steps) (is_background_bound s.strategy.background s.bound.background) e in
    map-append (λ (r : Revision). r.template) (flat_map revisions_if s.bound.steps) (revisions_if s.bound.background)
    ∙ (λ i. steps_named s.strategy.steps s.bound.steps parts.0 i ++ background_named s.strategy.background s.bound.background parts.1 i)
    ∙ sym (flat_map-append (λ (names : List (List ℕ)). names) (filter_map names_of_step s.strategy.steps) (names_of_background s.strategy.background))

-- Not at all.

no_steps : (bound : List (Option AnalysisParts)) → list_all (λ (a : Option AnalysisParts). is_none a) bound ≡ true → flat_map revisions_if bound ≡ []
no_steps [] e = refl
no_steps (b ∷ bound) e =
    let parts = both (is_none b) (list_all (λ (a : Option AnalysisParts). is_none a) bound) e in
    λ i. nothing_bound b parts.0 i ++ no_steps bound parts.1 i

unbound_named : (s : ServiceState) → is_unbound s ≡ true → all_revisions s.bound ≡ []
unbound_named s e =
    let long = both (length s.bound.steps == length s.strategy.steps) (list_all (λ (a : Option AnalysisParts). is_none a) s.bound.steps && is_none s.bound.background) e in
    let none = both (list_all (λ (a : Option AnalysisParts). is_none a) s.bound.steps) (is_none s.bound.background) long.1 in
    λ i. no_steps s.bound.steps none.0 i ++ nothing_bound s.bound.background none.1 i

none_known : (rs : List Revision) → AllByRecursion (IsKnown no_templates) rs → rs ≡ []
none_known [] all = refl
none_known (r ∷ rs) all = absurd (cc all.0)

-- a new service is bound to nothing
pub unbound_none : (s : CheckedStrategy) → all_revisions (unbound s) ≡ []
unbound_none s = none_known (all_revisions (unbound s)) (all_known no_templates s)

-- A service in order.

either : (a b c d : Bool) → (not (a || (b && c)) || d) ≡ false → (a ≡ true) ⊎ (c ≡ true)
either true b c d e = inl refl
either false true true d e = inr refl
either false true false d e = absurd (cc)
either false false c d e = absurd (cc)

pub wholly : (templates : RevisionMap) (name : List ℕ) (m : ModelService) → IsInOrder templates name m
    → (templates_in (all_revisions m.service.bound) ≡ all_names (analyses m.made)) ⊎ (all_revisions m.service.bound ≡ [])
wholly templates name m order =
    elim (either (is_bound m.service) (is_done m.service.state) (is_unbound m.service) (is_refused m.service.bound) (fit_of (stored_form m) order.parts).0.bound) [
      | inl whole ↦ inl (bound_named m.service whole ∙ ap (λ (s : CheckedStrategy). all_names (analyses_in s.steps s.background)) order.strategy)
      | inr none ↦ inr (unbound_named m.service none)
    ]

-- What is bound anew.

known_named : (known : Templates) (names : List (List ℕ)) → has_unknown known names ≡ false → templates_in (revisions_named known names) ≡ names
known_named known [] e = refl
known_named known (name ∷ names) e =
    let parts = neither (is_none (known name)) (has_unknown known names) e in
    map-append (λ (r : Revision). r.template) (revisions_in name (known name)) (revisions_named known names)
    ∙ (λ i. one (known name) parts.0 i ++ known_named known names parts.1 i)
  where
    one : (o : Option Template) → is_none o ≡ false → templates_in (revisions_in name o) ≡ name ∷ []
    one None e = absurd (cc)
    one (Some t) e = refl

any_both : (known : Templates) (xs ys : List (List ℕ)) → has_unknown known xs ≡ false → has_unknown known ys ≡ false → has_unknown known (xs ++ ys) ≡ false
any_both known [] ys e f = f
any_both known (x ∷ xs) ys e f = let parts = neither (is_none (known x)) (has_unknown known xs) e in ap (λ b. b || has_unknown known (xs ++ ys)) parts.0 ∙ any_both known xs ys parts.1 f

all_there : (known : Templates) (lists : List (List (List ℕ))) → list_any (has_unknown known) lists ≡ false → has_unknown known (all_names lists) ≡ false
all_there known [] e = refl
all_there known (names ∷ lists) e = let parts = neither (has_unknown known names) (list_any (has_unknown known) lists) e in any_both known names (all_names lists) parts.0 (all_there known lists parts.1)

none_unknown : (a b : Bool) → first_that_holds ((a, UnknownTemplate) ∷ (b, BadStrategy) ∷ []) ≡ None → a ≡ false
none_unknown true b e = absurd (cc)
none_unknown false b e = refl

-- a strategy that nothing refuses is bound wholly
pub newly : (known : Templates) (made : ServiceSpec) → strategy_refusal known made ≡ None → bound_refusal known (strategy_of made) ≡ None → templates_in (all_revisions (bound_of known (strategy_of made))) ≡ all_names (analyses made)
newly known made accepted none =
    let there : list_any (has_unknown known) (analyses made) ≡ false = none_unknown (list_any (has_unknown known) (analyses made)) (is_bad_strategy made) accepted in
    ap templates_in (bound_revisions known (strategy_of made) none) ∙ known_named known (all_names (analyses made)) (all_there known (analyses made) there)
