-- The revisions to which a strategy is bound, name by name.
use Rattle.std.proofs.Common.{◌≡◌, ℕ, zero, suc, Bool, true, false, List, [], ◌∷◌, ◌++◌, refl, ap, sym, subst, ◌∙◌}
use Rattle.std.specs.Prelude.{◌||◌, ◌&&◌, not, cond, if◌then◌else◌, Option, Some, None, is_none, option_map, map, slice_get}
use Rattle.std.specs.Option.{option_or}
use Rattle.std.specs.List.{AllByRecursion, list_any, find, filter_map, flat_map}
use Rattle.std.specs.Str.{bytes_eq}
use Rattle.std.proofs.lemmas.Grind.{flat_map-append}
use Rattle.std.proofs.lemmas.Slice.Eq.{bytes_eq-Decides}
use Rattle.canary_plan.specs.declared.step.Step.{Step}
use Rattle.canary_plan.specs.declared.step.Step.TheVariants.{SetWeight, Pause, Analysis}
use Rattle.canary_plan.specs.declared.service.Background.{Background}
use Rattle.canary_plan.specs.declared.strategy.CheckedStrategy.{CheckedStrategy}
use Rattle.canary_plan.specs.declared.template.Template.{Template}
use Rattle.canary_plan.specs.declared.analysis_parts.Revision.{Revision}
use Rattle.canary_plan.specs.declared.analysis_parts.AnalysisParts.{AnalysisParts}
use Rattle.canary_plan.specs.declared.refusal.Refusal.TheVariants.{DuplicateMetric, EndlessMetric, BadStrategy}
use Rattle.canary_plan.specs.Fit.{are_metrics_of_run}
use Rattle.canary_plan.specs.Plans.{Templates, Agree, metrics_named, revisions_in, revisions_named, has_unknown, binds, analysis_of, analysis_if, analysis_at, bound_step, bound_background, bound_of, revisions_if, all_revisions}
use Rattle.canary_plan.specs.Refusals.{first_that_holds}
use Rattle.canary_plan.specs.PlanRefusals.{repeats_metric, is_endless, is_unfit, names_of_step, names_of_background, analyses_in, bound_refusal}
use Rattle.canary_plan.specs.Commands.{all_names}
use Rattle.canary_plan.proofs.Distinct.{is_named}
use Rattle.canary_plan.proofs.BoundAlike.{all_left, all_right, analysis_alike}

abbrev pub of_template : List ℕ → Template → Revision
of_template name t = record { template = name; number = t.revision }

-- the revision of the template of that name, if it is known
abbrev pub revision_by : Templates → List ℕ → Option Revision
revision_by known name = option_map (of_template name) (known name)

-- Among the revisions of some names, each has its own.

same_text : (a b : List ℕ) → bytes_eq a b ≡ true → a ≡ b
same_text a b h = (bytes_eq-Decides a b).0 h

at_other : (name n : List ℕ) (o : Option Template) (rest : List Revision) → bytes_eq name n ≡ false → find (is_named name) (revisions_in n o ++ rest) ≡ find (is_named name) rest
at_other name n None rest h = refl
at_other name n (Some t) rest h = ap (λ b. cond b (Some (of_template n t)) (find (is_named name) rest)) h

at_it : (name n : List ℕ) (o : Option Template) (rest : List Revision) → bytes_eq name n ≡ true → find (is_named name) (revisions_in n o ++ rest) ≡ option_or (option_map (of_template n) o) (find (is_named name) rest)
at_it name n None rest h = refl
at_it name n (Some t) rest h = ap (λ b. cond b (Some (of_template n t)) (find (is_named name) rest)) h

settled : (o : Option Revision) (b : Bool) → option_or o (cond b o None) ≡ o
settled None true = refl
settled None false = refl
settled (Some r) b = refl

pub found_among : (known : Templates) (name : List ℕ) (ns : List (List ℕ)) → find (is_named name) (revisions_named known ns) ≡ cond (list_any (bytes_eq name) ns) (revision_by known name) None
found_among known name [] = refl
found_among known name (n ∷ ns) =
    let rest = found_among known name ns in
    let later : Bool = list_any (bytes_eq name) ns in
    elim (bytes_eq name n)
    as (λ (b : Bool). bytes_eq name n ≡ b → find (is_named name) (revisions_in n (known n) ++ revisions_named known ns) ≡ cond (b || later) (revision_by known name) None) [
      | true ↦ λ t.
          at_it name n (known n) (revisions_named known ns) t ∙ ap (λ (x : List ℕ). option_or (revision_by known x) (find (is_named name) (revisions_named known ns))) (sym (same_text name n t))
          ∙ ap (option_or (revision_by known name)) rest ∙ settled (revision_by known name) later
      | false ↦ λ t. at_other name n (known n) (revisions_named known ns) t ∙ rest
    ] refl

-- each of some names, among them
pub found_each : (known : Templates) (ns : List (List ℕ)) → AllByRecursion (λ name. find (is_named name) (revisions_named known ns) ≡ revision_by known name) ns
found_each known ns = each_of ns (λ name h. h)
  where
    itself : (name : List ℕ) → bytes_eq name name ≡ true
    itself name = (bytes_eq-Decides name name).1 refl

    or_later : (a b : Bool) → b ≡ true → (a || b) ≡ true
    or_later true b h = refl
    or_later false b h = h

    found_at : (name : List ℕ) → list_any (bytes_eq name) ns ≡ true → find (is_named name) (revisions_named known ns) ≡ revision_by known name
    found_at name h = found_among known name ns ∙ ap (λ b. cond b (revision_by known name) None) h

    each_of : (ms : List (List ℕ)) → ((name : List ℕ) → list_any (bytes_eq name) ms ≡ true → list_any (bytes_eq name) ns ≡ true) → AllByRecursion (λ name. find (is_named name) (revisions_named known ns) ≡ revision_by known name) ms
    each_of [] h = tt
    each_of (m ∷ ms) h = (found_at m (h m (ap (λ b. b || list_any (bytes_eq m) ms) (itself m))), each_of ms (λ name k. h name (or_later (bytes_eq name m) (list_any (bytes_eq name) ms) k)))

-- Bound again, by templates that agree on the revisions that a binding names.

-- they agree on the template of a revision
abbrev pub Keeps : Templates → Templates → Revision → Type 0
Keeps known other r = other r.template ≡ known r.template

left : (a b : Bool) → (not a && b) ≡ true → a ≡ false
left true b h = cc h
left false b h = refl

all_known : (known : Templates) (names : List (List ℕ)) → binds known names ≡ true → has_unknown known names ≡ false
all_known known names h = left (has_unknown known names) (are_metrics_of_run (metrics_named known names)) h

is_there : (a b : Bool) → (a || b) ≡ false → (a ≡ false) × (b ≡ false)
is_there true b h = cc h
is_there false b h = (refl, h)

on_revisions : (known other : Templates) (names : List (List ℕ)) → has_unknown known names ≡ false → AllByRecursion (Keeps known other) (revisions_named known names) → Agree other known names
on_revisions known other [] h keeps = tt
on_revisions known other (n ∷ ns) h keeps =
    let parts = is_there (is_none (known n)) (has_unknown known ns) h in
    let first = on_first (known n) parts.0 (all_left (Keeps known other) (revisions_in n (known n)) (revisions_named known ns) keeps) in
    (first, on_revisions known other ns parts.1 (all_right (Keeps known other) (revisions_in n (known n)) (revisions_named known ns) keeps))
  where
    on_first : (o : Option Template) → is_none o ≡ false → AllByRecursion (Keeps known other) (revisions_in n o) → other n ≡ known n
    on_first None k keeps = cc k
    on_first (Some t) k keeps = keeps.0

bound_so : (known : Templates) (names : List (List ℕ)) (a : AnalysisParts) → analysis_of known names ≡ Some a → binds known names ≡ true
bound_so known names a e = by_test (binds known names) e
  where
    by_test : (b : Bool) → (if b then Some (record { revisions = revisions_named known names; metrics = metrics_named known names }) else None) ≡ Some a → b ≡ true
    by_test true e = refl
    by_test false e = cc e

-- one analysis
pub analysis_again : (known other : Templates) (names : List (List ℕ)) (a : AnalysisParts) → analysis_of known names ≡ Some a → AllByRecursion (Keeps known other) a.revisions → analysis_of other names ≡ Some a
analysis_again known other names a e keeps =
    let bound = bound_so known names a e in
    let same : revisions_named known names ≡ a.revisions = ap (λ b. revisions_if (if b then Some (record { revisions = revisions_named known names; metrics = metrics_named known names }) else None)) (sym bound) ∙ ap revisions_if e in
    analysis_alike other known names (on_revisions known other names (all_known known names bound) (subst (AllByRecursion (Keeps known other)) (sym same) keeps)) ∙ e

-- that of a step, or of the background
pub analysis_at_again : (known other : Templates) (s : CheckedStrategy) (step : Option ℕ) (a : AnalysisParts) → analysis_at (bound_of known s) step ≡ Some a → AllByRecursion (Keeps known other) a.revisions
    → analysis_at (bound_of other s) step ≡ Some a
analysis_at_again known other s (Some i) a e keeps = at_step s.steps i e
  where
    at_step : (steps : List Step) (i : ℕ) → analysis_if (slice_get (map (bound_step known) steps) i) ≡ Some a → analysis_if (slice_get (map (bound_step other) steps) i) ≡ Some a
    at_step [] i e = cc e
    at_step (SetWeight percent ∷ steps) zero e = cc e
    at_step (Pause seconds ∷ steps) zero e = cc e
    at_step (Analysis names ∷ steps) zero e = analysis_again known other names a e keeps
    at_step (SetWeight percent ∷ steps) (suc i) e = at_step steps i e
    at_step (Pause seconds ∷ steps) (suc i) e = at_step steps i e
    at_step (Analysis names ∷ steps) (suc i) e = at_step steps i e
analysis_at_again known other s None a e keeps = in_background s.background e
  where
    in_background : (b : Option Background) → bound_background known b ≡ Some a → bound_background other b ≡ Some a
    in_background None e = cc e
    in_background (Some b) e = analysis_again known other b.templates a e keeps

-- no other template is there
abbrev pub KnowsNoOther : Templates → Templates → Type 0
KnowsNoOther known other = (name : List ℕ) → is_none (other name) ≡ false → other name ≡ known name

agree_if_there : (known other : Templates) → KnowsNoOther known other → (names : List (List ℕ)) → has_unknown other names ≡ false → Agree other known names
agree_if_there known other none [] h = tt
agree_if_there known other none (n ∷ ns) h = let parts = is_there (is_none (other n)) (has_unknown other ns) h in (none n parts.0, agree_if_there known other none ns parts.1)

each_again : (known other : Templates) → KnowsNoOther known other → (names : List (List ℕ)) → AllByRecursion (Keeps known other) (revisions_if (analysis_of known names)) → analysis_of other names ≡ analysis_of known names
each_again known other none names keeps =
    elim (binds known names)
    as (λ (b : Bool). binds known names ≡ b → analysis_of other names ≡ analysis_of known names) [
      | true ↦ λ t. analysis_again known other names (parts known) (is_bound known t) (subst (AllByRecursion (Keeps known other)) (ap revisions_if (is_bound known t)) keeps) ∙ sym (is_bound known t)
      | false ↦ λ t. by_other t
    ] refl
  where
    parts : Templates → AnalysisParts
    parts k = record { revisions = revisions_named k names; metrics = metrics_named k names }

    is_bound : (k : Templates) → binds k names ≡ true → analysis_of k names ≡ Some (parts k)
    is_bound k t = ap (λ b. if b then Some (parts k) else None) t

    not_bound : (k : Templates) → binds k names ≡ false → analysis_of k names ≡ None
    not_bound k t = ap (λ b. if b then Some (parts k) else None) t

    by_other : binds known names ≡ false → analysis_of other names ≡ analysis_of known names
    by_other t =
        elim (binds other names)
        as (λ (b : Bool). binds other names ≡ b → analysis_of other names ≡ analysis_of known names) [
          | true ↦ λ u. analysis_alike other known names (agree_if_there known other none names (all_known other names u))
          | false ↦ λ u. not_bound other u ∙ sym (not_bound known t)
        ] refl

-- a whole strategy
pub bound_again : (known other : Templates) (s : CheckedStrategy) → AllByRecursion (Keeps known other) (all_revisions (bound_of known s)) → KnowsNoOther known other → bound_of other s ≡ bound_of known s
bound_again known other s keeps none =
    let in_steps = flat_map revisions_if (map (bound_step known) s.steps) in
    let of_background = revisions_if (bound_background known s.background) in
    let steps = of_steps s.steps (all_left (Keeps known other) in_steps of_background keeps) in
    let background = of_background_too s.background (all_right (Keeps known other) in_steps of_background keeps) in
    λ i. record { steps = steps i; background = background i }
  where
    of_steps : (steps : List Step) → AllByRecursion (Keeps known other) (flat_map revisions_if (map (bound_step known) steps)) → map (bound_step other) steps ≡ map (bound_step known) steps
    of_steps [] keeps = refl
    of_steps (SetWeight percent ∷ steps) keeps = ap (λ (rest : List (Option AnalysisParts)). None ∷ rest) (of_steps steps keeps)
    of_steps (Pause seconds ∷ steps) keeps = ap (λ (rest : List (Option AnalysisParts)). None ∷ rest) (of_steps steps keeps)
    of_steps (Analysis names ∷ steps) keeps =
        let here = revisions_if (analysis_of known names) in
        let later = flat_map revisions_if (map (bound_step known) steps) in
        let first = each_again known other none names (all_left (Keeps known other) here later keeps) in
        let rest = of_steps steps (all_right (Keeps known other) here later keeps) in
        λ i. first i ∷ rest i

    of_background_too : (b : Option Background) → AllByRecursion (Keeps known other) (revisions_if (bound_background known b)) → bound_background other b ≡ bound_background known b
    of_background_too None keeps = refl
    of_background_too (Some b) keeps = each_again known other none b.templates keeps

-- The revisions of a strategy that binding does not refuse are those of all its names.

last_false : (a b c : Bool) → first_that_holds ((a, DuplicateMetric) ∷ (b, EndlessMetric) ∷ (c, BadStrategy) ∷ []) ≡ None → c ≡ false
last_false true b c h = cc h
last_false false true c h = cc h
last_false false false true h = cc h
last_false false false false h = refl

holds : (b : Bool) → not b ≡ false → b ≡ true
holds true h = refl
holds false h = cc h

revisions_of_all : (known : Templates) (xs : List (List (List ℕ))) → list_any (is_unfit known) xs ≡ false → flat_map (λ (names : List (List ℕ)). revisions_if (analysis_of known names)) xs ≡ revisions_named known (all_names xs)
revisions_of_all known [] h = refl
revisions_of_all known (names ∷ xs) h =
    let parts = is_there (is_unfit known names) (list_any (is_unfit known) xs) h in
    let later = flat_map (λ (names : List (List ℕ)). revisions_if (analysis_of known names)) xs in
    ap (λ b. revisions_if (if b then Some (record { revisions = revisions_named known names; metrics = metrics_named known names }) else None) ++ later) (holds (binds known names) parts.0)
    ∙ ap (λ (rs : List Revision). revisions_named known names ++ rs) (revisions_of_all known xs parts.1)
    ∙ sym (flat_map-append (λ name. revisions_in name (known name)) names (all_names xs))

by_steps : (known : Templates) (steps : List Step) → flat_map revisions_if (map (bound_step known) steps) ≡ flat_map (λ (names : List (List ℕ)). revisions_if (analysis_of known names)) (filter_map names_of_step steps)
by_steps known [] = refl
by_steps known (SetWeight percent ∷ steps) = by_steps known steps
by_steps known (Pause seconds ∷ steps) = by_steps known steps
by_steps known (Analysis names ∷ steps) = ap (λ (rs : List Revision). revisions_if (analysis_of known names) ++ rs) (by_steps known steps)

by_background : (known : Templates) (b : Option Background) → revisions_if (bound_background known b) ≡ flat_map (λ (names : List (List ℕ)). revisions_if (analysis_of known names)) (names_of_background b)
by_background known None = refl
by_background known (Some b) = none_behind (revisions_if (analysis_of known b.templates))
  where
    none_behind : (rs : List Revision) → rs ≡ rs ++ []
    none_behind [] = refl
    none_behind (r ∷ rs) = ap (λ (xs : List Revision). r ∷ xs) (none_behind rs)

pub bound_revisions : (known : Templates) (s : CheckedStrategy) → bound_refusal known s ≡ None → all_revisions (bound_of known s) ≡ revisions_named known (all_names (analyses_in s.steps s.background))
bound_revisions known s h =
    let all = analyses_in s.steps s.background in
    let steps = filter_map names_of_step s.steps in
    let fits = last_false (list_any (repeats_metric known) all) (list_any (is_endless known) steps) (list_any (is_unfit known) all) h in
    (λ i. by_steps known s.steps i ++ by_background known s.background i)
    ∙ sym (flat_map-append (λ (names : List (List ℕ)). revisions_if (analysis_of known names)) steps (names_of_background s.background))
    ∙ revisions_of_all known all fits
