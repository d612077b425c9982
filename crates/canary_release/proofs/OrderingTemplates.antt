-- Revisions never change, so what was bound stays bound, and a service's strategy stays accepted.
use Rattle.std.proofs.Common.{◌≡◌, ℕ, zero, suc, List, [], ◌∷◌, ◌++◌, length, Bool, true, false, refl, ap, sym, ◌∙◌, subst, arith, true≢false}
use Rattle.std.specs.Prelude.{◌==◌, ◌&&◌, ◌||◌, nat_lt, nat_le, not, if◌then◌else◌, cond, IsTrue, Option, Some, None, map, is_none, slice_get, unwrap_or}
use Rattle.std.specs.List.{list_any, list_all, last_or}
use Rattle.std.specs.Cmp.Lexicographic.{nat_list_cmp_total}
use Rattle.std.specs.Str.{bytes_eq}
use Rattle.std.specs.FinMap.{get, get-insert}
use Rattle.std.proofs.lemmas.Map.Text.{is_eq-slice_cmp}
use Rattle.std.proofs.lemmas.Slice.Eq.{bytes_eq-Decides}
use Rattle.std.proofs.lemmas.Bool.Decides.{nat_tests}
use Rattle.canary_metric.specs.Settings.{count_that_stands}
use Rattle.canary_plan.specs.declared.step.Step.{Step}
use Rattle.canary_plan.specs.declared.step.Step.TheVariants.{SetWeight, Pause, Analysis}
use Rattle.canary_plan.specs.declared.service.Background.{Background}
use Rattle.canary_plan.specs.declared.service.ServiceSpec.{ServiceSpec}
use Rattle.canary_plan.specs.declared.template_spec.MetricSpec.{MetricSpec}
use Rattle.canary_plan.specs.declared.template.Template.{Template}
use Rattle.canary_plan.specs.declared.analysis_parts.AnalysisParts.{AnalysisParts}
use Rattle.canary_plan.specs.declared.strategy.CheckedStrategy.{CheckedStrategy}
use Rattle.canary_plan.specs.declared.refusal.Refusal.TheVariants.{UnknownTemplate, BadStrategy}
use Rattle.canary_plan.specs.Fit.{are_metrics_of_run, is_at_least_one, asks_for_some, have_counts}
use Rattle.canary_plan.specs.Plans.{Templates, template_of, bound_metric, metrics_in, metrics_named, revisions_named, strategy_of, has_unknown, binds, analysis_of, bound_step, bound_background, bound_of, is_within_limits, is_background_within_limits, is_accepted, is_fit_if, are_fit}
use Rattle.canary_plan.specs.PlanRefusals.{analyses, is_bad_strategy, strategy_refusal}
use Rattle.canary_release.specs.declared.state.ServiceState.{ServiceState}
use Rattle.canary_release.specs.Desks.{RevisionMap, revisions_of, newest, with_revision}
use Rattle.canary_release.specs.Order.{at_revision, known_by, IsBoundIn, AreRevisions}
use Rattle.canary_release.proofs.PartsFresh.{and_right}
use Rattle.canary_release.proofs.OrderingBasics.{neither, row_false, not_false, last_pushed}

-- What a strategy that isn't refused is.

pub not_unknown : (known : Templates) (spec : ServiceSpec) → strategy_refusal known spec ≡ None → (list_any (has_unknown known) (analyses spec) ≡ false) × (is_bad_strategy spec ≡ false)
not_unknown known spec none =
    let h0 = row_false (list_any (has_unknown known) (analyses spec)) UnknownTemplate ((is_bad_strategy spec, BadStrategy) ∷ []) none in
    let h1 = row_false (is_bad_strategy spec) BadStrategy [] h0.1 in
    (h0.0, h1.0)

at_most : (n : ℕ) → nat_lt 64 n ≡ false → nat_le n 64 ≡ true
at_most n e = grind (arith, nat_tests, e)

pub strategy_accepted : (known : Templates) (spec : ServiceSpec) → strategy_refusal known spec ≡ None → IsTrue (is_accepted (strategy_of spec))
strategy_accepted known spec none =
    let limits : Bool = list_all is_within_limits spec.steps && is_background_within_limits spec.background in
    let one = neither (nat_lt 64 (length spec.steps)) (not limits) (not_unknown known spec none).1 in
    ap (λ b. b && limits) (at_most (length spec.steps) one.0) ∙ not_false limits one.1

-- Templates that know all that others know: the strategy stays accepted.

abbrev pub KnowsAll : Templates → Templates → Type 0
KnowsAll known other = (name : List ℕ) → is_none (known name) ≡ false → is_none (other name) ≡ false

all_known : (known other : Templates) → KnowsAll known other → (names : List (List ℕ)) → has_unknown known names ≡ false → has_unknown other names ≡ false
all_known known other keeps [] e = refl
all_known known other keeps (name ∷ names) e =
    let h = neither (is_none (known name)) (has_unknown known names) e in
    ap (λ b. b || has_unknown other names) (keeps name h.0) ∙ all_known known other keeps names h.1

none_unknown : (known other : Templates) → KnowsAll known other → (all : List (List (List ℕ))) → list_any (has_unknown known) all ≡ false → list_any (has_unknown other) all ≡ false
none_unknown known other keeps [] e = refl
none_unknown known other keeps (names ∷ all) e =
    let h = neither (has_unknown known names) (list_any (has_unknown known) all) e in
    ap (λ b. b || list_any (has_unknown other) all) (all_known known other keeps names h.0) ∙ none_unknown known other keeps all h.1

pub stays_accepted : (known other : Templates) (spec : ServiceSpec) → KnowsAll known other → strategy_refusal known spec ≡ None → strategy_refusal other spec ≡ None
stays_accepted known other spec keeps none =
    let h = not_unknown known spec none in
    rw (none_unknown known other keeps (analyses spec) h.0, h.1) refl

-- What is bound is fit for runs.

abbrev pub AreBound : Templates → Type 0
AreBound known = (name : List ℕ) (t : Template) → known name ≡ Some t → t ≡ template_of t.spec t.revision

and_both : (a b : Bool) → a ≡ true → b ≡ true → (a && b) ≡ true
and_both a b e f = ap (λ x. x && b) e ∙ f

all_append : {X : Type 0} (test : X → Bool) (xs ys : List X) → list_all test xs ≡ true → list_all test ys ≡ true → list_all test (xs ++ ys) ≡ true
all_append test [] ys h k = k
all_append test (x ∷ xs) ys h k =
    elim (test x)
    as (λ b. (b && list_all test xs) ≡ true → (b && list_all test (xs ++ ys)) ≡ true) [
      | true ↦ λ e. all_append test xs ys e k
      | false ↦ λ e. absurd (true≢false (sym e))
    ] h

stands : (o : Option ℕ) → is_at_least_one (count_that_stands o) ≡ true
stands None = refl
stands (Some n) = at_zero n
  where
    at_zero : (n : ℕ) → is_at_least_one (if n == 0 then None else Some n) ≡ true
    at_zero zero = refl
    at_zero (suc n) = grind (arith, nat_tests)

bound_counts : (dry_run : List (List ℕ)) (ms : List MetricSpec) → have_counts (map (bound_metric dry_run) ms) ≡ true
bound_counts dry_run [] = refl
bound_counts dry_run (m ∷ ms) =
    let some = and_both (is_at_least_one (count_that_stands m.count)) (is_at_least_one (count_that_stands m.pass_after)) (stands m.count) (stands m.pass_after) in
    and_both (asks_for_some (bound_metric dry_run m)) (have_counts (map (bound_metric dry_run) ms)) some (bound_counts dry_run ms)

template_counts : (known : Templates) → AreBound known → (name : List ℕ) → have_counts (metrics_in (known name)) ≡ true
template_counts known bound name = by (known name) refl
  where
    by : (o : Option Template) → known name ≡ o → have_counts (metrics_in o) ≡ true
    by None e = refl
    by (Some t) e = ap (λ (x : Template). have_counts x.metrics) (bound name t e) ∙ bound_counts t.spec.dry_run t.spec.metrics

named_counts : (known : Templates) → AreBound known → (names : List (List ℕ)) → have_counts (metrics_named known names) ≡ true
named_counts known bound [] = refl
named_counts known bound (name ∷ names) = all_append asks_for_some (metrics_in (known name)) (metrics_named known names) (template_counts known bound name) (named_counts known bound names)

analysis_fit : (known : Templates) → AreBound known → (names : List (List ℕ)) → is_fit_if (analysis_of known names) ≡ true
analysis_fit known bound names =
    let a : AnalysisParts = record { revisions = revisions_named known names; metrics = metrics_named known names } in
    elim (binds known names)
    as (λ b. binds known names ≡ b → is_fit_if (if b then Some a else None) ≡ true) [
      | true ↦ λ e. and_both (are_metrics_of_run (metrics_named known names)) (have_counts (metrics_named known names)) (and_right (not (has_unknown known names)) (are_metrics_of_run (metrics_named known names)) e) (named_counts known bound names)
      | false ↦ λ e. refl
    ] refl

steps_fit : (known : Templates) → AreBound known → (steps : List Step) → list_all is_fit_if (map (bound_step known) steps) ≡ true
steps_fit known bound [] = refl
steps_fit known bound (SetWeight percent ∷ steps) = steps_fit known bound steps
steps_fit known bound (Pause seconds ∷ steps) = steps_fit known bound steps
steps_fit known bound (Analysis names ∷ steps) = and_both (is_fit_if (analysis_of known names)) (list_all is_fit_if (map (bound_step known) steps)) (analysis_fit known bound names) (steps_fit known bound steps)

background_fit : (known : Templates) → AreBound known → (b : Option Background) → is_fit_if (bound_background known b) ≡ true
background_fit known bound None = refl
background_fit known bound (Some b) = analysis_fit known bound b.templates

pub all_fit : (known : Templates) → AreBound known → (s : CheckedStrategy) → are_fit (bound_of known s) ≡ true
all_fit known bound s = and_both (list_all is_fit_if (map (bound_step known) s.steps)) (is_fit_if (bound_background known s.background)) (steps_fit known bound s.steps) (background_fit known bound s.background)

-- Revisions that are there are bound.

abbrev pub AllBound : RevisionMap → Type 0
AllBound ts = (name : List ℕ) (k : ℕ) (t : Template) → slice_get (revisions_of ts name) k ≡ Some t → t ≡ template_of t.spec t.revision

some_same : {A : Type 0} (a b : A) → ◌≡◌ {A = Option A} (Some a) (Some b) → a ≡ b
some_same a b e = cc e

pub revision_bound : (name : List ℕ) (n k : ℕ) (xs : List Template) (t : Template) → AreRevisions name n xs → slice_get xs k ≡ Some t → t ≡ template_of t.spec t.revision
revision_bound name n k [] t h e = cc e
revision_bound name n zero (x ∷ xs) t h e =
    let same : x ≡ t = some_same x t e in
    let is : x ≡ template_of x.spec n = h.0.bound in
    subst (λ (y : Template). y ≡ template_of y.spec y.revision) same (is ∙ ap (template_of x.spec) (sym (ap (λ (y : Template). y.revision) is)))
revision_bound name n (suc k) (x ∷ xs) t h e = revision_bound name (suc n) k xs t h.1 e

known_bound : (ts : RevisionMap) (b : List ℕ → Option ℕ) → AllBound ts → AreBound (known_by ts b)
known_bound ts b all name t e = by (b name) e
  where
    by : (n : Option ℕ) → at_revision (revisions_of ts name) n ≡ Some t → t ≡ template_of t.spec t.revision
    by None e = cc e
    by (Some zero) e = cc e
    by (Some (suc k)) e = all name k t e

pub fit_in : (ts : RevisionMap) (s : ServiceState) → AllBound ts → IsBoundIn ts s → are_fit s.bound ≡ true
fit_in ts s all b = ap are_fit b.bound ∙ all_fit (known_by ts b.binding) (known_bound ts b.binding all) s.strategy

-- With one revision more.

abbrev pub Extends : RevisionMap → RevisionMap → Type 0
Extends ts other = (name : List ℕ) (k : ℕ) (t : Template) → slice_get (revisions_of ts name) k ≡ Some t → slice_get (revisions_of other name) k ≡ Some t

-- a binding to revisions that are there
abbrev if_there : Option Template → Option ℕ → Option ℕ
if_there None n = None
if_there (Some t) n = n

same_at : (xs ys : List Template) → ((k : ℕ) (t : Template) → slice_get xs k ≡ Some t → slice_get ys k ≡ Some t) → (n : Option ℕ) (o : Option Template) → at_revision xs n ≡ o → at_revision ys (if_there o n) ≡ o
same_at xs ys more n None e = refl
same_at xs ys more None (Some t) e = cc e
same_at xs ys more (Some zero) (Some t) e = cc e
same_at xs ys more (Some (suc k)) (Some t) e = more k t e

abbrev pub restricted : RevisionMap → (List ℕ → Option ℕ) → List ℕ → Option ℕ
restricted ts b name = if_there (at_revision (revisions_of ts name) (b name)) (b name)

pub same_known : (ts other : RevisionMap) (b : List ℕ → Option ℕ) → Extends ts other → known_by ts b ≡ known_by other (restricted ts b)
same_known ts other b more = λ i name. sym (same_at (revisions_of ts name) (revisions_of other name) (more name) (b name) (at_revision (revisions_of ts name) (b name)) refl) i

pub still_bound : (ts other : RevisionMap) (s : ServiceState) → Extends ts other → IsBoundIn ts s → IsBoundIn other s
still_bound ts other s more b = record { binding = restricted ts b.binding; bound = b.bound ∙ ap (λ (known : Templates). bound_of known s.strategy) (same_known ts other b.binding more) }

front_at : (xs ys : List Template) (k : ℕ) (t : Template) → slice_get xs k ≡ Some t → slice_get (xs ++ ys) k ≡ Some t
front_at [] ys k t e = cc e
front_at (x ∷ xs) ys zero t e = e
front_at (x ∷ xs) ys (suc k) t e = front_at xs ys k t e

pub revisions_after : (ts : RevisionMap) (name : List ℕ) (t : Template) (q : List ℕ) → revisions_of (with_revision ts name t) q ≡ cond (bytes_eq q name) (revisions_of ts name ++ t ∷ []) (revisions_of ts q)
revisions_after ts name t q =
    let new = revisions_of ts name ++ t ∷ [] in
    ap (λ (o : Option (List Template)). unwrap_or o []) (get-insert nat_list_cmp_total ts name new q ∙ ap (λ b. cond b (Some new) (get ts q)) (is_eq-slice_cmp q name))
    ∙ elim (bytes_eq q name) as (λ b. unwrap_or (cond b (Some new) (get ts q)) [] ≡ cond b new (unwrap_or (get ts q) [])) [ true ↦ refl | false ↦ refl ]

pub one_more_extends : (ts : RevisionMap) (name : List ℕ) (t : Template) → Extends ts (with_revision ts name t)
one_more_extends ts name t q k u e =
    ap (λ (xs : List Template). slice_get xs k) (revisions_after ts name t q)
    ∙ elim (bytes_eq q name)
    as (λ b. bytes_eq q name ≡ b → slice_get (cond b (revisions_of ts name ++ t ∷ []) (revisions_of ts q)) k ≡ Some u) [
      | true ↦ λ b. front_at (revisions_of ts name) (t ∷ []) k u (ap (λ n. slice_get (revisions_of ts n) k) (sym ((bytes_eq-Decides q name).0 b)) ∙ e)
      | false ↦ λ b. e
    ] refl

pub knows_all : (ts : RevisionMap) (name : List ℕ) (t : Template) → KnowsAll (newest ts) (newest (with_revision ts name t))
knows_all ts name t q h =
    ap (λ (xs : List Template). is_none (last_or None xs)) (revisions_after ts name t q)
    ∙ elim (bytes_eq q name) as (λ b. is_none (last_or None (cond b (revisions_of ts name ++ t ∷ []) (revisions_of ts q))) ≡ false) [ true ↦ ap is_none (last_pushed None (revisions_of ts name) t) | false ↦ h ]
