-- Each revision to which a strategy is bound is that of a template that is known.
use Rattle.std.proofs.Common.{◌≡◌, ℕ, zero, suc, ◌≤◌, List, [], ◌∷◌, ◌++◌, length, Bool, true, false, not, Some, None, refl, sym, subst, arith}
use Rattle.std.specs.Prelude.{Option, nat_le, ◌&&◌, cond, if◌then◌else◌, find, flat_map, map, slice_get}
use Rattle.std.specs.Str.{bytes_eq}
use Rattle.std.proofs.lemmas.Bool.Decides.{nat_tests}
use Rattle.std.specs.List.{AllByRecursion}
use Rattle.canary_plan.specs.declared.step.Step.{Step}
use Rattle.canary_plan.specs.declared.step.Step.TheVariants.{SetWeight, Pause, Analysis}
use Rattle.canary_plan.specs.declared.service.Background.{Background}
use Rattle.canary_plan.specs.declared.strategy.CheckedStrategy.{CheckedStrategy}
use Rattle.canary_plan.specs.declared.template.Template.{Template}
use Rattle.canary_plan.specs.declared.analysis_parts.Revision.{Revision}
use Rattle.canary_plan.specs.declared.analysis_parts.AnalysisParts.{AnalysisParts}
use Rattle.canary_plan.specs.Fit.{are_metrics_of_run}
use Rattle.canary_plan.specs.Plans.{Templates, metrics_named, revisions_in, revisions_named, has_unknown, binds, analysis_of, analysis_if, analysis_at, bound_step, bound_background, bound_of, revisions_if, all_revisions}
use Rattle.canary_tables_contents.specs.Tables.{is_of_template}
use Rattle.canary_tables_contents.proofs.Named.{equal_keys}

-- the template is known under this number
pub record IsKnown (known : Templates) (r : Revision) : Type 0 where
  pub value : Template
  pub there : known r.template ≡ Some value
  pub numbered : r.number ≡ value.revision

pub all_both : {X : Type 0} (P : X → Type 0) (xs ys : List X) → AllByRecursion P xs → AllByRecursion P ys → AllByRecursion P (xs ++ ys)
all_both P [] ys first rest = rest
all_both P (x ∷ xs) ys first rest = (first.0, all_both P xs ys first.1 rest)

in_name : (known : Templates) (n : List ℕ) (o : Option Template) → known n ≡ o → AllByRecursion (IsKnown known) (revisions_in n o)
in_name known n None e = tt
in_name known n (Some x) e = (record { value = x; there = e; numbered = refl }, tt)

in_names : (known : Templates) (names : List (List ℕ)) → AllByRecursion (IsKnown known) (revisions_named known names)
in_names known [] = tt
in_names known (n ∷ ns) = all_both (IsKnown known) (revisions_in n (known n)) (revisions_named known ns) (in_name known n (known n) refl) (in_names known ns)

in_analysis : (known : Templates) (names : List (List ℕ)) → AllByRecursion (IsKnown known) (revisions_if (analysis_of known names))
in_analysis known names =
    elim (binds known names)
    as (λ b. AllByRecursion (IsKnown known) (revisions_if (if b then Some (record { revisions = revisions_named known names; metrics = metrics_named known names }) else None)))
    [ true ↦ in_names known names | false ↦ tt ]

-- what holds of each analysis holds of that at any place
pub at_place : (known : Templates) (P : Option AnalysisParts → Type 0) → P None → ((names : List (List ℕ)) → P (analysis_of known names)) → (s : CheckedStrategy) (step : Option ℕ) → P (analysis_at (bound_of known s) step)
at_place known P none each s None = of_background s.background
  where
    of_background : (b : Option Background) → P (bound_background known b)
    of_background None = none
    of_background (Some b) = each b.templates
at_place known P none each s (Some i) = at_step s.steps i
  where
    of_step : (step : Step) → P (bound_step known step)
    of_step (Analysis names) = each names
    of_step (SetWeight percent) = none
    of_step (Pause seconds) = none

    at_step : (steps : List Step) (i : ℕ) → P (analysis_if (slice_get (map (bound_step known) steps) i))
    at_step [] i = none
    at_step (step ∷ steps) zero = of_step step
    at_step (step ∷ steps) (suc i) = at_step steps i

in_step : (known : Templates) (step : Step) → AllByRecursion (IsKnown known) (revisions_if (bound_step known step))
in_step known (Analysis names) = in_analysis known names
in_step known (SetWeight percent) = tt
in_step known (Pause seconds) = tt

in_steps : (known : Templates) (steps : List Step) → AllByRecursion (IsKnown known) (flat_map revisions_if (map (bound_step known) steps))
in_steps known [] = tt
in_steps known (step ∷ steps) = all_both (IsKnown known) (revisions_if (bound_step known step)) (flat_map revisions_if (map (bound_step known) steps)) (in_step known step) (in_steps known steps)

in_background : (known : Templates) (b : Option Background) → AllByRecursion (IsKnown known) (revisions_if (bound_background known b))
in_background known None = tt
in_background known (Some b) = in_analysis known b.templates

pub all_known : (known : Templates) (s : CheckedStrategy) → AllByRecursion (IsKnown known) (all_revisions (bound_of known s))
all_known known s = all_both (IsKnown known) (flat_map revisions_if (map (bound_step known) s.steps)) (revisions_if (bound_background known s.background)) (in_steps known s.steps) (in_background known s.background)

pub analysis_known : (known : Templates) (s : CheckedStrategy) (step : Option ℕ) (a : AnalysisParts) → analysis_at (bound_of known s) step ≡ Some a → AllByRecursion (IsKnown known) a.revisions
analysis_known known s step a e = subst (λ (o : Option AnalysisParts). AllByRecursion (IsKnown known) (revisions_if o)) e (at_place known (λ o. AllByRecursion (IsKnown known) (revisions_if o)) tt (in_analysis known) s step)

-- An analysis that is bound has some metric.

abbrev HasSome : Option AnalysisParts → Type 0
HasSome o = (a : AnalysisParts) → o ≡ Some a → 1 ≤ length a.metrics

at_least : (b : Bool) (n : ℕ) → nat_le 1 n && b ≡ true → 1 ≤ n
at_least b n e = let h : nat_le 1 n ≡ true = first_holds (nat_le 1 n) b e in grind (arith, nat_tests, h)
  where
    first_holds : (a b : Bool) → a && b ≡ true → a ≡ true
    first_holds true b e = refl
    first_holds false b e = absurd (cc)

some_metric : (known : Templates) (names : List (List ℕ)) → HasSome (analysis_of known names)
some_metric known names a e =
    elim (binds known names)
    as (λ b. binds known names ≡ b → (if b then Some (record { revisions = revisions_named known names; metrics = metrics_named known names }) else None) ≡ Some a → 1 ≤ length a.metrics) [
      | true ↦ λ t e.
          let same : record { revisions = revisions_named known names; metrics = metrics_named known names } ≡ a = cc e in
          subst (λ (x : AnalysisParts). 1 ≤ length x.metrics) same (at_least (nat_le (length (metrics_named known names)) 32) (length (metrics_named known names)) (second (not (has_unknown known names)) (are_metrics_of_run (metrics_named known names)) t))
      | false ↦ λ t e. absurd (cc)
    ] refl e
  where
    second : (a b : Bool) → a && b ≡ true → b ≡ true
    second true b e = e
    second false b e = absurd (cc)

pub analysis_has_some : (known : Templates) (s : CheckedStrategy) (step : Option ℕ) (a : AnalysisParts) → analysis_at (bound_of known s) step ≡ Some a → 1 ≤ length a.metrics
analysis_has_some known s step = at_place known HasSome (λ a e. absurd (cc)) (some_metric known) s step

-- The first revision of a template.

pub record IsFirst (P : Revision → Type 0) (template : List ℕ) (r : Revision) : Type 0 where
  pub named : r.template ≡ template
  pub has : P r

pub found_has : (P : Revision → Type 0) (template : List ℕ) (rs : List Revision) (r : Revision) → AllByRecursion P rs → find (is_of_template template) rs ≡ Some r → IsFirst P template r
found_has P template [] r all e = absurd (cc)
found_has P template (x ∷ rs) r all e =
    elim (bytes_eq template x.template)
    as (λ b. bytes_eq template x.template ≡ b → cond b (Some x) (find (is_of_template template) rs) ≡ Some r → IsFirst P template r) [
      | true ↦ λ is e. let same : x ≡ r = cc in subst (IsFirst P template) same (record { named = sym (equal_keys template x.template is); has = all.0 })
      | false ↦ λ is e. found_has P template rs r all.1 e
    ] refl e

pub none_found : (template : List ℕ) (rs : List Revision) → find (is_of_template template) rs ≡ None → AllByRecursion (λ (r : Revision). bytes_eq template r.template ≡ false) rs
none_found template [] e = tt
none_found template (x ∷ rs) e =
    elim (bytes_eq template x.template)
    as (λ b. bytes_eq template x.template ≡ b → cond b (Some x) (find (is_of_template template) rs) ≡ None → AllByRecursion (λ (r : Revision). bytes_eq template r.template ≡ false) (x ∷ rs)) [
      | true ↦ λ is e. absurd (cc)
      | false ↦ λ is e. (is, none_found template rs e)
    ] refl e
