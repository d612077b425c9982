-- If each template has one revision: what a strategy and its runs are bound to.
use Rattle.std.proofs.Common.{◌≡◌, ℕ, zero, suc, List, [], ◌∷◌, ◌++◌, Bool, true, false, Some, None, refl, sym, ap, ◌∙◌}
use Rattle.std.specs.Prelude.{Option, ◌&&◌, ◌||◌, not, if◌then◌else◌, map, flat_map, slice_get, is_none}
use Rattle.std.specs.List.{filter_map, list_all}
use Rattle.std.specs.Cmp.Lexicographic.{pointwise}
use Rattle.std.proofs.lemmas.List.{map-append, append-nil}
use Rattle.std.proofs.lemmas.List.Concat.{flat_map-append}
use Rattle.canary_plan.specs.declared.analysis_parts.AnalysisParts.{AnalysisParts}
use Rattle.canary_plan.specs.declared.service.Background.{Background}
use Rattle.canary_plan.specs.declared.service.ServiceSpec.{ServiceSpec}
use Rattle.canary_plan.specs.declared.step.Step.{Step}
use Rattle.canary_plan.specs.declared.step.Step.TheVariants.{SetWeight, Pause, Analysis}
use Rattle.canary_plan.specs.declared.template.Template.{Template}
use Rattle.canary_plan.specs.Commands.{all_names}
use Rattle.canary_plan.specs.Fit.{are_metrics_of_run}
use Rattle.canary_plan.specs.PlanRefusals.{names_of_step, names_of_background, analyses}
use Rattle.canary_plan.specs.Plans.{Templates, metrics_named, revisions_in, revisions_named, has_unknown, binds, analysis_of, bound_step, bound_background, bound_of, strategy_of, analysis_if, analysis_at, revisions_if, all_revisions, is_within_limits, is_background_within_limits, are_templates_of_run}
use Rattle.canary_release.specs.Parts.{is_bound_to, is_step_bound, is_background_bound}
use Rattle.canary_migrate.specs.Migrated.{first_of, names_if, background_names, names_at}

-- each template that is known is its revision 1
abbrev pub AreFirstKnown : Templates → Type 0
AreFirstKnown known = (name : List ℕ) (t : Template) → known name ≡ Some t → t.revision ≡ 1

both : (a b : Bool) → (a || b) ≡ false → (a ≡ false) × (b ≡ false)
both true b e = cc e
both false b e = (refl, e)

all_there : (a b : Bool) → (not a && b) ≡ true → a ≡ false
all_there true b e = cc e
all_there false b e = refl

one_first : (known : Templates) → AreFirstKnown known → (name : List ℕ) (o : Option Template) → known name ≡ o → is_none o ≡ false → revisions_in name o ≡ first_of name ∷ []
one_first known first name None e some = cc some
one_first known first name (Some t) e some = λ i. record { template = name; number = first name t e i } ∷ []

named_first : (known : Templates) → AreFirstKnown known → (names : List (List ℕ)) → has_unknown known names ≡ false → revisions_named known names ≡ map first_of names
named_first known first [] e = refl
named_first known first (name ∷ names) e =
    let parts = both (is_none (known name)) (has_unknown known names) e in
    λ i. one_first known first name (known name) refl parts.0 i ++ named_first known first names parts.1 i

bound_first : (known : Templates) → AreFirstKnown known → (names : List (List ℕ)) → binds known names ≡ true → revisions_named known names ≡ map first_of names
bound_first known first names e = named_first known first names (all_there (has_unknown known names) (are_metrics_of_run (metrics_named known names)) e)

abbrev parts_of : Templates → List (List ℕ) → AnalysisParts
parts_of known names = record { revisions = revisions_named known names; metrics = metrics_named known names }

-- an analysis that is bound to its own templates
own_first : (known : Templates) → AreFirstKnown known → (names : List (List ℕ)) → is_bound_to names (analysis_of known names) ≡ true → revisions_if (analysis_of known names) ≡ map first_of names
own_first known first names =
    elim (binds known names)
    as (λ b. binds known names ≡ b → is_bound_to names (if b then Some (parts_of known names) else None) ≡ true → revisions_if (if b then Some (parts_of known names) else None) ≡ map first_of names) [
      | true ↦ λ e bound. bound_first known first names e
      | false ↦ λ e bound. cc bound
    ] refl

and_first : (a b : Bool) → (a && b) ≡ true → a ≡ true
and_first true b e = refl
and_first false b e = cc e

and_second : (a b : Bool) → (a && b) ≡ true → b ≡ true
and_second true b e = e
and_second false b e = cc e

abbrev step_names : Step → List (List ℕ)
step_names (SetWeight percent) = []
step_names (Pause seconds) = []
step_names (Analysis names) = names

step_first : (known : Templates) → AreFirstKnown known → (s : Step) → is_step_bound s (bound_step known s) ≡ true → revisions_if (bound_step known s) ≡ map first_of (step_names s)
step_first known first (SetWeight percent) e = refl
step_first known first (Pause seconds) e = refl
step_first known first (Analysis names) e = own_first known first names e

steps_named : (s : Step) (steps : List Step) → all_names (filter_map names_of_step (s ∷ steps)) ≡ step_names s ++ all_names (filter_map names_of_step steps)
steps_named (SetWeight percent) steps = refl
steps_named (Pause seconds) steps = refl
steps_named (Analysis names) steps = refl

steps_first : (known : Templates) → AreFirstKnown known → (steps : List Step) → pointwise is_step_bound steps (map (bound_step known) steps) ≡ true
    → flat_map revisions_if (map (bound_step known) steps) ≡ map first_of (all_names (filter_map names_of_step steps))
steps_first known first [] e = refl
steps_first known first (s ∷ steps) e =
    let here = and_first (is_step_bound s (bound_step known s)) (pointwise is_step_bound steps (map (bound_step known) steps)) e in
    let later = and_second (is_step_bound s (bound_step known s)) (pointwise is_step_bound steps (map (bound_step known) steps)) e in
    (λ i. step_first known first s here i ++ steps_first known first steps later i)
    ∙ sym (map-append first_of (step_names s) (all_names (filter_map names_of_step steps)))
    ∙ ap (map first_of) (sym (steps_named s steps))

background_first : (known : Templates) → AreFirstKnown known → (b : Option Background) → is_background_bound b (bound_background known b) ≡ true
    → revisions_if (bound_background known b) ≡ map first_of (all_names (names_of_background b))
background_first known first None e = refl
background_first known first (Some b) e = own_first known first b.templates e ∙ ap (map first_of) (sym (append-nil b.templates))

-- a service whose analyses are all bound is bound to revision 1 of all templates that it names
pub all_first : (known : Templates) → AreFirstKnown known → (made : ServiceSpec)
    → (pointwise is_step_bound made.steps (map (bound_step known) made.steps) && is_background_bound made.background (bound_background known made.background)) ≡ true
    → all_revisions (bound_of known (strategy_of made)) ≡ map first_of (all_names (analyses made))
all_first known first made e =
    let steps = filter_map names_of_step made.steps in
    let background = names_of_background made.background in
    let here = and_first (pointwise is_step_bound made.steps (map (bound_step known) made.steps)) (is_background_bound made.background (bound_background known made.background)) e in
    let later = and_second (pointwise is_step_bound made.steps (map (bound_step known) made.steps)) (is_background_bound made.background (bound_background known made.background)) e in
    (λ i. steps_first known first made.steps here i ++ background_first known first made.background later i)
    ∙ sym (map-append first_of (all_names steps) (all_names background))
    ∙ ap (map first_of) (sym (flat_map-append (λ (names : List (List ℕ)). names) steps background))

-- A run's analysis.

part_first : (known : Templates) → AreFirstKnown known → (names : List (List ℕ)) (a : AnalysisParts) → analysis_of known names ≡ Some a → a.revisions ≡ map first_of names
part_first known first names a =
    elim (binds known names)
    as (λ b. binds known names ≡ b → (if b then Some (parts_of known names) else None) ≡ Some a → a.revisions ≡ map first_of names) [
      | true ↦ λ e is. (let same : parts_of known names ≡ a = cc is in sym (ap (λ (x : AnalysisParts). x.revisions) same) ∙ bound_first known first names e)
      | false ↦ λ e is. cc is
    ] refl

step_at : (known : Templates) → AreFirstKnown known → (steps : List Step) (i : ℕ) (a : AnalysisParts) → analysis_if (slice_get (map (bound_step known) steps) i) ≡ Some a → a.revisions ≡ map first_of (names_if (slice_get steps i))
step_at known first [] i a e = cc e
step_at known first (SetWeight percent ∷ steps) zero a e = cc e
step_at known first (Pause seconds ∷ steps) zero a e = cc e
step_at known first (Analysis names ∷ steps) zero a e = part_first known first names a e
step_at known first (s ∷ steps) (suc i) a e = step_at known first steps i a e

background_at : (known : Templates) → AreFirstKnown known → (b : Option Background) (a : AnalysisParts) → bound_background known b ≡ Some a → a.revisions ≡ map first_of (background_names b)
background_at known first None a e = cc e
background_at known first (Some b) a e = part_first known first b.templates a e

pub run_first : (known : Templates) → AreFirstKnown known → (made : ServiceSpec) (step : Option ℕ) (a : AnalysisParts) → analysis_at (bound_of known (strategy_of made)) step ≡ Some a → a.revisions ≡ map first_of (names_at made step)
run_first known first made None a e = background_at known first made.background a e
run_first known first made (Some i) a e = step_at known first made.steps i a e

-- A strategy that names no template is bound.

none_left : {A : Type 0} (xs ys : List A) → xs ++ ys ≡ [] → (xs ≡ []) × (ys ≡ [])
none_left [] ys e = (refl, e)
none_left (x ∷ xs) ys e = cc e

not_named : (names : List (List ℕ)) → are_templates_of_run names ≡ true → names ≡ [] → ⊥
not_named [] e is = cc e
not_named (name ∷ names) e is = cc is

step_alone : (known : Templates) (s : Step) → is_within_limits s ≡ true → step_names s ≡ [] → is_step_bound s (bound_step known s) ≡ true
step_alone known (SetWeight percent) within none = refl
step_alone known (Pause seconds) within none = refl
step_alone known (Analysis names) within none = absurd (not_named names within none)

and_both : (a b : Bool) → a ≡ true → b ≡ true → (a && b) ≡ true
and_both true b ea eb = eb
and_both false b ea eb = cc ea

steps_alone : (known : Templates) (steps : List Step) → list_all is_within_limits steps ≡ true → all_names (filter_map names_of_step steps) ≡ [] → pointwise is_step_bound steps (map (bound_step known) steps) ≡ true
steps_alone known [] within none = refl
steps_alone known (s ∷ steps) within none =
    let split = none_left (step_names s) (all_names (filter_map names_of_step steps)) (sym (steps_named s steps) ∙ none) in
    let here = step_alone known s (and_first (is_within_limits s) (list_all is_within_limits steps) within) split.0 in
    let later = steps_alone known steps (and_second (is_within_limits s) (list_all is_within_limits steps) within) split.1 in
    and_both (is_step_bound s (bound_step known s)) (pointwise is_step_bound steps (map (bound_step known) steps)) here later

background_alone : (known : Templates) (b : Option Background) → is_background_within_limits b ≡ true → all_names (names_of_background b) ≡ [] → is_background_bound b (bound_background known b) ≡ true
background_alone known None within none = refl
background_alone known (Some b) within none = absurd (not_named b.templates within (sym (append-nil b.templates) ∙ none))

pub alone_bound : (known : Templates) (made : ServiceSpec) → (list_all is_within_limits made.steps && is_background_within_limits made.background) ≡ true → all_names (analyses made) ≡ []
    → (pointwise is_step_bound made.steps (map (bound_step known) made.steps) && is_background_bound made.background (bound_background known made.background)) ≡ true
alone_bound known made within none =
    let steps = filter_map names_of_step made.steps in
    let background = names_of_background made.background in
    let split = none_left (all_names steps) (all_names background) (sym (flat_map-append (λ (names : List (List ℕ)). names) steps background) ∙ none) in
    and_both (pointwise is_step_bound made.steps (map (bound_step known) made.steps)) (is_background_bound made.background (bound_background known made.background))
    (steps_alone known made.steps (and_first (list_all is_within_limits made.steps) (is_background_within_limits made.background) within) split.0)
    (background_alone known made.background (and_second (list_all is_within_limits made.steps) (is_background_within_limits made.background) within) split.1)
