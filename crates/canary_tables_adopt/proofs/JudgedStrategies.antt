-- What is reported of a strategy, from the templates that are read.
use Rattle.std.proofs.Common.{◌≡◌, ◌+◌, ◌<◌, ◌≤◌, ℕ, zero, suc, List, [], ◌∷◌, filter, take, length, get_or, Bool, true, false, Option, Some, None, refl, sym, ap, ◌∙◌, subst}
use Rattle.std.specs.Prelude.{Ok, Err, cond, slice_get}
use Rattle.std.specs.FinMap.{get, insert, empty}
use Rattle.std.specs.List.{AllByRecursion}
use Rattle.std.proofs.lemmas.List.{take_all}
use Rattle.sqlite.specs.State.{State}
use Rattle.canary_plan.specs.declared.command.Command.{Command}
use Rattle.canary_plan.specs.declared.command.Command.TheVariants as command
use Rattle.canary_plan.specs.declared.service.ServiceSpec.{ServiceSpec}
use Rattle.canary_plan.specs.declared.strategy.CheckedStrategy.{CheckedStrategy}
use Rattle.canary_plan.specs.declared.template.Template.{Template}
use Rattle.canary_plan.specs.Commands.{all_names}
use Rattle.canary_plan.specs.Plans.{strategy_of}
use Rattle.canary_plan.specs.PlanRefusals.{analyses, template_refusal, strategy_refusal}
use Rattle.canary_plan.proofs.BoundAlike.{refusal_alike}
use Rattle.canary_canonical.specs.Readings.{canonical_in}
use Rattle.canary_tables_rows.specs.declared.rows.RevisionRow.{RevisionRow}
use Rattle.canary_tables_rows.specs.Tables.{Tables, is_revision_of}
use Rattle.canary_tables_rows.specs.Newest.{IsNewest}
use Rattle.canary_tables_schema.specs.Stores.{IsUsable, Stores}
use Rattle.canary_tables_contents.specs.declared.fault.RowFault.TheVariants.{Broken}
use Rattle.canary_tables_contents.specs.Reads.{IsRevisionRead}
use Rattle.canary_tables_contents.specs.Values.{revision_from}
use Rattle.canary_tables_contents.specs.Judged.{AreTemplatesJudged, IsRevisionJudged}
use Rattle.canary_tables_contents.specs.JudgedLaws.{JudgedNewestAreFound}
use Rattle.canary_tables_read.specs.Finds.{IsSame}
use Rattle.canary_tables_adopt.specs.Strategies.{newest_in, known_among, IsStrategyAccepted, IsStrategyOf}
use Rattle.canary_tables_adopt.specs.Templates.{IsAcceptedAs}
use Rattle.canary_tables_adopt.proofs.Standing.{same_then, stores_then}
use Rattle.canary_tables_adopt.proofs.KnownAmong.{Found, none_among, found_more, found_none, agree_then}

-- A row.

told : (revision : ℕ) (o : Option Command) (template : Template) → IsRevisionRead revision o (Ok template) → (revision_from revision o ≡ Some template) × (template_refusal template.spec ≡ None)
told revision (Some (command.Template spec)) template read = (ap Some (sym read.1), ap (λ (t : Template). template_refusal t.spec) read.1 ∙ read.0)
told revision other template read = absurd read

pub row_read : (row : RevisionRow) (template : Template) → IsRevisionRead row.revision (canonical_in row.spec) (Ok template) → IsAcceptedAs row template
row_read row template read = let t = told row.revision (canonical_in row.spec) template read in record { is = t.0; accepted = t.1 }

abbrev spec_of : Template → Option Template → Template
spec_of d None = d
spec_of d (Some t) = t

untold : (revision : ℕ) (o : Option Command) (template : Template) → IsRevisionRead revision o (Err Broken) → revision_from revision o ≡ Some template → template_refusal template.spec ≡ None → ⊥
untold revision (Some (command.Template spec)) template refused is accepted = refused (ap (λ o. template_refusal (spec_of template o).spec) is ∙ accepted)
untold revision other template refused is accepted = cc

pub row_refused : (row : RevisionRow) (template : Template) → IsRevisionRead row.revision (canonical_in row.spec) (Err Broken) → ¬ IsAcceptedAs row template
row_refused row template refused accepted = untold row.revision (canonical_in row.spec) template refused accepted.is accepted.accepted

-- A template.

pub kept_judged : {X : Type 0} (P : X → Type 0) (test : X → Bool) (xs : List X) → AllByRecursion P xs → AllByRecursion P (filter test xs)
kept_judged P test [] all = tt
kept_judged P test (x ∷ xs) all =
    elim (test x)
    as (λ b. AllByRecursion P (cond b (x ∷ filter test xs) (filter test xs))) [
      | true ↦ (all.0, kept_judged P test xs all.1)
      | false ↦ kept_judged P test xs all.1
    ]

pub judged_at : {X : Type 0} (P : X → Type 0) (xs : List X) (place : ℕ) (x : X) → AllByRecursion P xs → slice_get xs place ≡ Some x → P x
judged_at P [] place x all e = absurd (cc)
judged_at P (y ∷ xs) zero x all e = let same : y ≡ x = cc e in subst P same all.0
judged_at P (y ∷ xs) (suc place) x all e = judged_at P xs place x all.1 e

-- no row is that of no template
pub newest_none : (t : Tables) (name : List ℕ) → JudgedNewestAreFound → AreTemplatesJudged t → IsNewest (filter (is_revision_of name) t.revisions) None → None ≡ newest_in t name
newest_none t name law judged none = (law t judged name None none).value

-- the row that is there is that of the template
pub newest_told : (t : Tables) (name : List ℕ) (row : RevisionRow) (template : Template) → JudgedNewestAreFound → AreTemplatesJudged t → IsNewest (filter (is_revision_of name) t.revisions) (Some row) → IsAcceptedAs row template → Some template ≡ newest_in t name
newest_told t name row template law judged greatest accepted = sym accepted.is ∙ (law t judged name (Some row) greatest).value

-- and is read as it
pub newest_accepted : (t : Tables) (name : List ℕ) (row : RevisionRow) → AreTemplatesJudged t → IsNewest (filter (is_revision_of name) t.revisions) (Some row) → (template : Template) × IsAcceptedAs row template
newest_accepted t name row judged greatest =
    let is : IsRevisionJudged t row = judged_at (IsRevisionJudged t) (filter (is_revision_of name) t.revisions) greatest.place row (kept_judged (IsRevisionJudged t) (is_revision_of name) t.revisions judged) greatest.stands in
    (is.read, record { is = is.is; accepted = is.accepted })

-- The templates of some names.

-- those of the first names are found
pub record TemplatesSoFar (names : List (List ℕ)) (i : ℕ) (old now : State) (found : Found) : Type 0 where
  pub same : IsSame old now
  pub value : IsUsable now → (t : Tables) → Stores old t → AreTemplatesJudged t → get found ≡ known_among (newest_in t) (take i names)

pub none_so_far : (names : List (List ℕ)) (old : State) (found : Found) → found ≡ empty → TemplatesSoFar names 0 old old found
none_so_far names old found is = record { same = λ usable. (usable, refl); value = λ usable t has judged. none_among (newest_in t) found is }

pub template_more : (names : List (List ℕ)) (i : ℕ) (old between new : State) (found more : Found) (name : List ℕ) (template : Template) → i < length names → name ≡ get_or names i name → TemplatesSoFar names i old between found → IsSame between new
    → (IsUsable new → (t : Tables) → Stores between t → AreTemplatesJudged t → Some template ≡ newest_in t name) → more ≡ insert found name template → TemplatesSoFar names (i + 1) old new more
template_more names i old between new found more name template below at before same is put =
    record {
      same = same_then old between new before.same same;
      value = λ usable t has judged.
          let mid = (same usable).0 in
          found_more (newest_in t) found more names i name template below at (before.value mid t has judged) (is usable t (stores_then old between t before.same mid has) judged) put;
    }

pub no_template_more : (names : List (List ℕ)) (i : ℕ) (old between new : State) (found more : Found) (name : List ℕ) → i < length names → name ≡ get_or names i name → TemplatesSoFar names i old between found → IsSame between new
    → (IsUsable new → (t : Tables) → Stores between t → AreTemplatesJudged t → None ≡ newest_in t name) → more ≡ found → TemplatesSoFar names (i + 1) old new more
no_template_more names i old between new found more name below at before same is stays =
    record {
      same = same_then old between new before.same same;
      value = λ usable t has judged.
          let mid = (same usable).0 in
          found_none (newest_in t) found more names i name below at (before.value mid t has judged) (is usable t (stores_then old between t before.same mid has) judged) stays;
    }

pub templates_done : (names : List (List ℕ)) (i : ℕ) (old now : State) (found : Found) → TemplatesSoFar names i old now found → length names ≤ i → IsUsable now → (t : Tables) → Stores old t → AreTemplatesJudged t
    → get found ≡ known_among (newest_in t) names
templates_done names i old now found so_far all usable t has judged = so_far.value usable t has judged ∙ ap (known_among (newest_in t)) (take_all i names all)

-- What refuses a strategy by the templates that are named is what refuses it by all.

pub strategy_told : (t : Tables) (spec : ServiceSpec) (names : List (List ℕ)) (known : Found) (strategy : CheckedStrategy) → names ≡ all_names (analyses spec) → get known ≡ known_among (newest_in t) names
    → (strategy_refusal (get known) spec ≡ None) × (strategy ≡ strategy_of spec) → IsStrategyOf t spec strategy
strategy_told t spec names known strategy all known_is is =
    (sym (refusal_alike (get known) (newest_in t) spec (agree_then (get known) (newest_in t) names (all_names (analyses spec)) known_is all)) ∙ is.0, is.1)

pub strategy_refused : (t : Tables) (spec : ServiceSpec) (names : List (List ℕ)) (known : Found) → names ≡ all_names (analyses spec) → get known ≡ known_among (newest_in t) names → ¬ (strategy_refusal (get known) spec ≡ None) → ¬ IsStrategyAccepted t spec
strategy_refused t spec names known all known_is refused accepted =
    refused (refusal_alike (get known) (newest_in t) spec (agree_then (get known) (newest_in t) names (all_names (analyses spec)) known_is all) ∙ accepted)
