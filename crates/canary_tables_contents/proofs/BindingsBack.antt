-- What a service and its runs are bound to is read back from the rows of their bindings.
use Rattle.std.proofs.Common.{◌≡◌, ℕ, zero, suc, List, [], ◌∷◌, ◌++◌, Bool, true, false, Some, None, refl, sym, ap, ◌∙◌, subst, eqb-true}
use Rattle.std.specs.Prelude.{Option, cond, ◌||◌, ◌&&◌, ◌==◌, not, if◌then◌else◌, find, map, flat_map, slice_get, is_none, is_some, option_map, option_and_then, unwrap_or}
use Rattle.std.specs.Str.{bytes_eq}
use Rattle.std.specs.List.{list_any, AllByRecursion}
use Rattle.std.specs.FinMap.{get}
use Rattle.std.specs.Cmp.Lexicographic.{pointwise}
use Rattle.canary_plan.specs.declared.step.Step.{Step}
use Rattle.canary_plan.specs.declared.step.Step.TheVariants.{SetWeight, Pause, Analysis}
use Rattle.canary_plan.specs.declared.service.Background.{Background}
use Rattle.canary_plan.specs.declared.template.Template.{Template}
use Rattle.canary_plan.specs.declared.analysis_parts.Revision.{Revision}
use Rattle.canary_plan.specs.declared.analysis_parts.AnalysisParts.{AnalysisParts}
use Rattle.canary_plan.specs.declared.bound.BoundParts.{BoundParts}
use Rattle.canary_plan.specs.declared.strategy.CheckedStrategy.{CheckedStrategy}
use Rattle.canary_plan.specs.Fit.{no_analysis}
use Rattle.canary_plan.specs.Plans.{Templates, metrics_named, revisions_in, revisions_named, binds, analysis_of, bound_step, bound_background, bound_of, strategy_of, analysis_if, analysis_at, analysis_or_none, revisions_if, all_revisions}
use Rattle.canary_plan.proofs.BoundRevisions.{of_template, revision_by, Keeps, KnowsNoOther, analysis_at_again, bound_again}
use Rattle.canary_release.specs.Desks.{ModelService, RevisionMap, revisions_of}
use Rattle.canary_release.specs.Order.{at_revision, known_by, IsBoundIn, IsInOrder, IsRun, AreRevisions}
use Rattle.canary_release.specs.Parts.{same_revision, is_bound_otherwise, has_other_revisions}
use Rattle.canary_release.specs.Pasts.{Run, tallied}
use Rattle.canary_once.specs.Contents.{Contents}
use Rattle.canary_once.specs.Sound.{AreContents}
use Rattle.canary_tables_rows.specs.Tables.{Tables}
use Rattle.canary_tables_contents.specs.Values.{binding_row}
use Rattle.canary_tables_contents.specs.Tables.{row_if, is_of_template, revisions_of_run, revisions_bound, AreRows, IsReadable}
use Rattle.canary_tables_contents.specs.Reading.{first_row, revision_bound, known_in}
use Rattle.canary_tables_contents.proofs.Keys.{equal_keys, own_key}
use Rattle.canary_tables_contents.proofs.Numbered.{weaker}
use Rattle.canary_tables_contents.proofs.RevisionsBack.{revision_number, in_revisions, revision_found}

-- Lists.

pub find_holds : {X : Type 0} (p : X → Bool) (xs : List X) (x : X) → find p xs ≡ Some x → p x ≡ true
find_holds p [] x e = absurd (cc)
find_holds {X} p (y ∷ xs) x e =
    elim (p y)
    as (λ b. p y ≡ b → ◌≡◌ {A = Option X} (cond b (Some y) (find p xs)) (Some x) → p x ≡ true) [
      | true ↦ λ t e. (let same : y ≡ x = cc e in subst (λ z. p z ≡ true) same t)
      | false ↦ λ t e. find_holds p xs x e
    ] refl e

pub find_all : {X : Type 0} (P : X → Type 0) (p : X → Bool) (xs : List X) (x : X) → AllByRecursion P xs → find p xs ≡ Some x → P x
find_all P p [] x all e = absurd (cc)
find_all {X} P p (y ∷ xs) x all e =
    elim (p y)
    as (λ b. ◌≡◌ {A = Option X} (cond b (Some y) (find p xs)) (Some x) → P x) [
      | true ↦ λ e. (let same : y ≡ x = cc e in subst P same all.0)
      | false ↦ λ e. find_all P p xs x all.1 e
    ] e

pub any_found : {X : Type 0} (p : X → Bool) (xs : List X) → list_any p xs ≡ is_some (find p xs)
any_found p [] = refl
any_found {X} p (x ∷ xs) =
    elim (p x)
    as (λ (b : Bool). (b || list_any p xs) ≡ is_some (cond b (Some x) (find p xs)))
    [ true ↦ refl | false ↦ any_found p xs ]

both_all : {X : Type 0} (P : X → Type 0) (xs ys : List X) → AllByRecursion P xs → AllByRecursion P ys → AllByRecursion P (xs ++ ys)
both_all P [] ys first later = later
both_all P (x ∷ xs) ys first later = (first.0, both_all P xs ys first.1 later)

-- A revision that is bound is that of its template.

abbrev pub IsKnown : Templates → Revision → Type 0
IsKnown known r = revision_by known r.template ≡ Some r

one_known : (known : Templates) (name : List ℕ) (o : Option Template) → known name ≡ o → AllByRecursion (IsKnown known) (revisions_in name o)
one_known known name None e = tt
one_known known name (Some t) e = (ap (option_map (of_template name)) e, tt)

named_known : (known : Templates) (names : List (List ℕ)) → AllByRecursion (IsKnown known) (revisions_named known names)
named_known known [] = tt
named_known known (name ∷ names) = both_all (IsKnown known) (revisions_in name (known name)) (revisions_named known names) (one_known known name (known name) refl) (named_known known names)

parts_known : (known : Templates) (names : List (List ℕ)) → AllByRecursion (IsKnown known) (revisions_if (analysis_of known names))
parts_known known names =
    elim (binds known names)
    as (λ b. AllByRecursion (IsKnown known) (revisions_if (if b then Some (record { revisions = revisions_named known names; metrics = metrics_named known names }) else None)))
    [ true ↦ named_known known names | false ↦ tt ]

step_known : (known : Templates) (s : Step) → AllByRecursion (IsKnown known) (revisions_if (bound_step known s))
step_known known (SetWeight percent) = tt
step_known known (Pause seconds) = tt
step_known known (Analysis names) = parts_known known names

background_known : (known : Templates) (b : Option Background) → AllByRecursion (IsKnown known) (revisions_if (bound_background known b))
background_known known None = tt
background_known known (Some b) = parts_known known b.templates

steps_known : (known : Templates) (steps : List Step) → AllByRecursion (IsKnown known) (flat_map revisions_if (map (bound_step known) steps))
steps_known known [] = tt
steps_known known (s ∷ steps) = both_all (IsKnown known) (revisions_if (bound_step known s)) (flat_map revisions_if (map (bound_step known) steps)) (step_known known s) (steps_known known steps)

pub all_known : (known : Templates) (s : CheckedStrategy) → AllByRecursion (IsKnown known) (all_revisions (bound_of known s))
all_known known s = both_all (IsKnown known) (flat_map revisions_if (map (bound_step known) s.steps)) (revisions_if (bound_background known s.background)) (steps_known known s.steps) (background_known known s.background)

step_at : (known : Templates) (steps : List Step) (i : ℕ) → AllByRecursion (IsKnown known) (revisions_if (analysis_if (slice_get (map (bound_step known) steps) i)))
step_at known [] i = tt
step_at known (s ∷ steps) zero = step_known known s
step_at known (s ∷ steps) (suc i) = step_at known steps i

at_step : (known : Templates) (s : CheckedStrategy) (step : Option ℕ) → AllByRecursion (IsKnown known) (revisions_if (analysis_at (bound_of known s) step))
at_step known s (Some i) = step_at known s.steps i
at_step known s None = background_known known s.background

pub analysis_known : (known : Templates) (s : CheckedStrategy) (step : Option ℕ) (a : AnalysisParts) → analysis_at (bound_of known s) step ≡ Some a → AllByRecursion (IsKnown known) a.revisions
analysis_known known s step a e = subst (λ (o : Option AnalysisParts). AllByRecursion (IsKnown known) (revisions_if o)) e (at_step known s step)

-- It is the revision of its number.

pub in_order : (c : Contents) → AreContents c → (name : List ℕ) → AreRevisions name 1 (revisions_of c.desk.templates name)
in_order c lawful name = in_revisions name (get c.desk.templates name) (lawful.desk.templates name)

-- the templates of the first of these revisions of each name
abbrev pub known_through : RevisionMap → List Revision → Templates
known_through templates rs name = option_and_then (λ (r : Revision). at_revision (revisions_of templates r.template) (Some r.number)) (find (is_of_template name) rs)

numbered_so : (name : List ℕ) (ts : List Template) (place : ℕ) (r : Revision) (o : Option Template) → AreRevisions name 1 ts → slice_get ts place ≡ o → option_map (of_template name) o ≡ Some r → at_revision ts (Some r.number) ≡ o
numbered_so name ts place r None are e is = absurd (cc)
numbered_so name ts place r (Some t) are e is =
    let same : of_template name t ≡ r = cc in
    let number : r.number ≡ suc place = ap (λ (x : Revision). x.number) (sym same) ∙ revision_number name ts place t are e in
    ap (λ n. at_revision ts (Some n)) number ∙ e

settled_at : (name : List ℕ) (ts : List Template) (bound : Option ℕ) (r : Revision) → AreRevisions name 1 ts → option_map (of_template name) (at_revision ts bound) ≡ Some r → at_revision ts (Some r.number) ≡ at_revision ts bound
settled_at name ts None r are is = absurd (cc)
settled_at name ts (Some zero) r are is = absurd (cc)
settled_at name ts (Some (suc place)) r are is = numbered_so name ts place r (slice_get ts place) are refl is

pub settled : (templates : RevisionMap) → ((name : List ℕ) → AreRevisions name 1 (revisions_of templates name)) → (binding : List ℕ → Option ℕ) (r : Revision) → IsKnown (known_by templates binding) r
    → at_revision (revisions_of templates r.template) (Some r.number) ≡ known_by templates binding r.template
settled templates are binding r is = settled_at r.template (revisions_of templates r.template) (binding r.template) r (are r.template) is

-- Bound through these revisions.

-- what stands among them stands for a template that is bound
through_one : (templates : RevisionMap) → ((name : List ℕ) → AreRevisions name 1 (revisions_of templates name)) → (binding : List ℕ → Option ℕ) (rs : List Revision) → AllByRecursion (IsKnown (known_by templates binding)) rs
    → (name : List ℕ) (o : Option Revision) → find (is_of_template name) rs ≡ o → is_some o ≡ true → known_through templates rs name ≡ known_by templates binding name
through_one templates are binding rs known name None e some = absurd (cc)
through_one templates are binding rs known name (Some r) e some =
    let same : name ≡ r.template = equal_keys name r.template (find_holds (is_of_template name) rs r e) in
    let is : IsKnown (known_by templates binding) r = find_all (IsKnown (known_by templates binding)) (is_of_template name) rs r known e in
    ap (option_and_then (λ (x : Revision). at_revision (revisions_of templates x.template) (Some x.number))) e
    ∙ settled templates are binding r is
    ∙ ap (known_by templates binding) (sym same)

or_later : (a b : Bool) → b ≡ true → (a || b) ≡ true
or_later true b h = refl
or_later false b h = h

-- each of them is found by its name
pub each_found : (all rs : List Revision) → ((name : List ℕ) → list_any (is_of_template name) rs ≡ true → list_any (is_of_template name) all ≡ true) → AllByRecursion (λ (r : Revision). list_any (is_of_template r.template) all ≡ true) rs
each_found all [] h = tt
each_found all (r ∷ rs) h =
    (h r.template (ap (λ b. b || list_any (is_of_template r.template) rs) (own_key r.template)), each_found all rs (λ name e. h name (or_later (is_of_template name r) (list_any (is_of_template name) rs) e)))

pub through_keeps : (templates : RevisionMap) → ((name : List ℕ) → AreRevisions name 1 (revisions_of templates name)) → (binding : List ℕ → Option ℕ) (rs : List Revision) → AllByRecursion (IsKnown (known_by templates binding)) rs
    → AllByRecursion (Keeps (known_by templates binding) (known_through templates rs)) rs
through_keeps templates are binding rs known =
    weaker (λ (r : Revision). list_any (is_of_template r.template) rs ≡ true) (Keeps (known_by templates binding) (known_through templates rs))
    (λ r there. through_one templates are binding rs known r.template (find (is_of_template r.template) rs) refl (sym (any_found (is_of_template r.template) rs) ∙ there))
    rs (each_found rs rs (λ name e. e))

through_no_other : (templates : RevisionMap) → ((name : List ℕ) → AreRevisions name 1 (revisions_of templates name)) → (binding : List ℕ → Option ℕ) (rs : List Revision) → AllByRecursion (IsKnown (known_by templates binding)) rs
    → KnowsNoOther (known_by templates binding) (known_through templates rs)
through_no_other templates are binding rs known name there = by (find (is_of_template name) rs) refl
  where
    by : (o : Option Revision) → find (is_of_template name) rs ≡ o → known_through templates rs name ≡ known_by templates binding name
    by None e =
        let none : known_through templates rs name ≡ None = ap (option_and_then (λ (x : Revision). at_revision (revisions_of templates x.template) (Some x.number))) e in
        let no : true ≡ false = sym (ap (λ (o : Option Template). is_none o) none) ∙ there in absurd (cc)
    by (Some r) e = through_one templates are binding rs known name (Some r) e refl

-- The rows.

row_through : (t : Tables) (c : Contents) → AreRows t c → IsReadable c → AreContents c → (q : List ℕ) (number : ℕ) (o : Option Revision)
    → option_and_then (revision_bound t.revisions) (first_row (row_if (binding_row q number) o)) ≡ option_and_then (λ (r : Revision). at_revision (revisions_of c.desk.templates r.template) (Some r.number)) o
row_through t c are readable lawful q number None = refl
row_through t c are readable lawful q number (Some r) = (revision_found t c are readable lawful r.template r.number).value

pub known_is : (t : Tables) (c : Contents) → AreRows t c → IsReadable c → AreContents c → (q : List ℕ) (number : ℕ) → known_in t q number ≡ known_through c.desk.templates (revisions_bound (get c.desk.services q) number)
known_is t c are readable lawful q number =
    λ i name. (ap (λ rows. option_and_then (revision_bound t.revisions) (first_row rows)) (are.bindings q number name)
    ∙ row_through t c are readable lawful q number (find (is_of_template name) (revisions_bound (get c.desk.services q) number))) i

-- a service is bound to the templates of its present attempt
pub bound_back : (t : Tables) (c : Contents) → AreRows t c → IsReadable c → AreContents c → (q : List ℕ) (s : ModelService) → get c.desk.services q ≡ Some s → s.service.bound ≡ bound_of (known_in t q 0) (strategy_of s.made)
bound_back t c are readable lawful q s e =
    let order : IsInOrder c.desk.templates q s = lawful.desk.services q s e in
    let bound : IsBoundIn c.desk.templates s.service = order.bound in
    let templates : RevisionMap = c.desk.templates in
    let known : Templates = known_by templates bound.binding in
    let rs : List Revision = all_revisions s.service.bound in
    let all : AllByRecursion (IsKnown known) rs = subst (λ b. AllByRecursion (IsKnown known) (all_revisions b)) (sym bound.bound) (all_known known s.service.strategy) in
    let keeps : AllByRecursion (Keeps known (known_through templates rs)) rs = through_keeps templates (in_order c lawful) bound.binding rs all in
    let keeps_too : AllByRecursion (Keeps known (known_through templates rs)) (all_revisions (bound_of known s.service.strategy)) = subst (λ b. AllByRecursion (Keeps known (known_through templates rs)) (all_revisions b)) bound.bound keeps in
    let again : bound_of (known_through templates rs) s.service.strategy ≡ bound_of known s.service.strategy = bound_again known (known_through templates rs) s.service.strategy keeps_too (through_no_other templates (in_order c lawful) bound.binding rs all) in
    let read : known_in t q 0 ≡ known_through templates rs = known_is t c are readable lawful q 0 ∙ ap (λ o. known_through templates (revisions_bound o 0)) e in
    bound.bound ∙ sym again ∙ (λ i. bound_of (sym read i) (order.strategy i))

-- a run's analysis is that at its step, bound to the templates of the run
pub analysis_back : (t : Tables) (c : Contents) → AreRows t c → IsReadable c → AreContents c → (q : List ℕ) (s : ModelService) → get c.desk.services q ≡ Some s → (place : ℕ) (r : Run) → slice_get s.past.runs place ≡ Some r → IsRun c.desk.templates s r
    → analysis_or_none (bound_of (known_in t q (suc place)) (strategy_of s.made)) r.step ≡ r.analysis
analysis_back t c are readable lawful q s e place r at is =
    let order : IsInOrder c.desk.templates q s = lawful.desk.services q s e in
    let templates : RevisionMap = c.desk.templates in
    let known : Templates = known_by templates is.binding in
    let rs : List Revision = r.analysis.revisions in
    let all : AllByRecursion (IsKnown known) rs = analysis_known known s.service.strategy r.step r.analysis is.analysis in
    let keeps : AllByRecursion (Keeps known (known_through templates rs)) rs = through_keeps templates (in_order c lawful) is.binding rs all in
    let again : analysis_at (bound_of (known_through templates rs) s.service.strategy) r.step ≡ Some r.analysis = analysis_at_again known (known_through templates rs) s.service.strategy r.step r.analysis is.analysis keeps in
    let read : known_in t q (suc place) ≡ known_through templates rs = known_is t c are readable lawful q (suc place) ∙ ap (λ o. known_through templates (revisions_bound o (suc place))) e ∙ ap (λ o. known_through templates (revisions_of_run o)) at in
    (λ i. analysis_or_none (bound_of (read i) (sym order.strategy i)) r.step) ∙ ap (λ (o : Option AnalysisParts). unwrap_or o no_analysis) again

-- An open run is bound as its service is.

same_revisions : (xs ys : List Revision) → pointwise same_revision xs ys ≡ true → xs ≡ ys
same_revisions [] [] e = refl
same_revisions [] (y ∷ ys) e = absurd (cc)
same_revisions (x ∷ xs) [] e = absurd (cc)
same_revisions (x ∷ xs) (y ∷ ys) e =
    let parts = both (same_revision x y) (pointwise same_revision xs ys) e in
    let fields = both (bytes_eq x.template y.template) (x.number == y.number) parts.0 in
    λ i. record { template = equal_keys x.template y.template fields.0 i; number = eqb-true x.number y.number fields.1 i } ∷ same_revisions xs ys parts.1 i
  where
    both : (a b : Bool) → (a && b) ≡ true → (a ≡ true) × (b ≡ true)
    both true b e = (refl, e)
    both false b e = absurd (cc)

-- revisions that are known by two bindings are of the same templates
known_alike : (templates : RevisionMap) → ((name : List ℕ) → AreRevisions name 1 (revisions_of templates name)) → (first other : List ℕ → Option ℕ) (rs : List Revision) → AllByRecursion (IsKnown (known_by templates first)) rs → AllByRecursion (IsKnown (known_by templates other)) rs
    → AllByRecursion (Keeps (known_by templates first) (known_by templates other)) rs
known_alike templates are first other [] one two = tt
known_alike templates are first other (r ∷ rs) one two = (sym (settled templates are other r two.0) ∙ settled templates are first r one.0, known_alike templates are first other rs one.1 two.1)

bound_otherwise : (o : Option AnalysisParts) (a : AnalysisParts) → is_bound_otherwise o a ≡ false → (b : AnalysisParts) × (o ≡ Some b) × (b.revisions ≡ a.revisions)
bound_otherwise None a e = absurd (cc)
bound_otherwise (Some b) a e = (b, refl, same_revisions b.revisions a.revisions (not_not (pointwise same_revision b.revisions a.revisions) e))
  where
    not_not : (c : Bool) → not c ≡ false → c ≡ true
    not_not true e = refl
    not_not false e = absurd (cc)

pub open_analysis : (templates : RevisionMap) (m : ModelService) (r : Run) → ((name : List ℕ) → AreRevisions name 1 (revisions_of templates name)) → IsBoundIn templates m.service → IsRun templates m r → has_other_revisions m.service (tallied r) ≡ false → analysis_or_none m.service.bound r.step ≡ r.analysis
open_analysis templates m r are bound is same =
    let own : Templates = known_by templates bound.binding in
    let known : Templates = known_by templates is.binding in
    let at = bound_otherwise (analysis_at m.service.bound r.step) r.analysis same in
    let here : analysis_at (bound_of own m.service.strategy) r.step ≡ Some at.0 = ap (λ (b : BoundParts). analysis_at b r.step) (sym bound.bound) ∙ at.1 in
    let of_own : AllByRecursion (IsKnown own) r.analysis.revisions = subst (AllByRecursion (IsKnown own)) at.2 (analysis_known own m.service.strategy r.step at.0 here) in
    let of_run : AllByRecursion (IsKnown known) r.analysis.revisions = analysis_known known m.service.strategy r.step r.analysis is.analysis in
    let again : analysis_at (bound_of own m.service.strategy) r.step ≡ Some r.analysis =
    analysis_at_again known own m.service.strategy r.step r.analysis is.analysis (known_alike templates are is.binding bound.binding r.analysis.revisions of_run of_own) in
    ap (λ (o : Option AnalysisParts). unwrap_or o no_analysis) (ap (λ (b : BoundParts). analysis_at b r.step) bound.bound ∙ again)
