-- What is found of templates and strategies.
use Rattle.std.proofs.Common.{◌≡◌, ◌+◌, ◌<◌, ◌≤◌, ℕ, List, filter, take, length, get_or, Option, Some, option_map, refl, sym, ap, subst, ◌∙◌}
use Rattle.std.specs.Prelude.{option_and_then}
use Rattle.std.specs.FinMap.{FinMap, get, empty}
use Rattle.std.specs.Ordering.{nat_cmp}
use Rattle.std.specs.Cmp.Lexicographic.{slice_cmp}
use Rattle.std.proofs.lemmas.List.{take_all}
use Rattle.sqlite.specs.State.{State}
use Rattle.canary_plan.specs.declared.template.Template.{Template}
use Rattle.canary_release.specs.Desks.{newest}
use Rattle.canary_once.specs.Contents.{Contents, put_some, templates_named}
use Rattle.canary_once.proofs.TemplateLemmas.{found_more}
use Rattle.canary_tables_rows.specs.declared.rows.RevisionRow.{RevisionRow}
use Rattle.canary_tables_rows.specs.Newest.{IsNewest}
use Rattle.canary_tables_rows.specs.Tables.{Tables, is_revision_of}
use Rattle.canary_tables_schema.specs.Stores.{IsUsable, Stores}
use Rattle.canary_tables_contents.specs.Laws.{NewestAreFound}
use Rattle.canary_tables_contents.specs.Reading.{known_in}
use Rattle.canary_tables_contents.specs.Values.{revision_of_row}
use Rattle.canary_tables_read.specs.Finds.{IsSame}
use Rattle.canary_tables_adopt.specs.Bindings.{IsKnownIn}
use Rattle.canary_tables.specs.Desk.{IsDesk, contents_in}
use Rattle.canary_tables.proofs.Standing.{contents_stay, same_then}

-- Templates.

-- a map from names
abbrev pub TemplateMap : Type 0
TemplateMap = FinMap (slice_cmp nat_cmp) Template

-- the row with the greatest number is that of the newest revision
pub template_told : (old new : State) (name : List ℕ) (row : Option RevisionRow) (found : Option Template) → NewestAreFound → (IsUsable old → IsDesk old) → IsSame old new → IsUsable new
    → ((t : Tables) → Stores old t → IsNewest (filter (is_revision_of name) t.revisions) row) → option_and_then revision_of_row row ≡ found → found ≡ newest (contents_in old).desk.templates name
template_told old new name row found law desk same usable read is =
    let d = desk (same usable).0 in
    sym is ∙ (law _ d.holds name row (read _ d.stores)).value

-- the templates of the first names are found
pub record TemplatesSoFar (names : List (List ℕ)) (i : ℕ) (old now : State) (found : TemplateMap) : Type 0 where
  pub same : IsSame old now
  pub value : IsUsable now → found ≡ templates_named (contents_in old) (take i names)

pub none_so_far : (names : List (List ℕ)) (old : State) (found : TemplateMap) → found ≡ empty → TemplatesSoFar names 0 old old found
none_so_far names old found is = record { same = λ usable. (usable, refl); value = λ usable. is }

pub one_more : (names : List (List ℕ)) (i : ℕ) (old between new : State) (found more : TemplateMap) (name : List ℕ) (o : Option Template) → i < length names → name ≡ get_or names i name → TemplatesSoFar names i old between found
    → IsSame between new → (IsUsable new → o ≡ newest (contents_in between).desk.templates name) → more ≡ put_some found name o → TemplatesSoFar names (i + 1) old new more
one_more names i old between new found more name o below at before same is put =
    record {
      same = same_then old between new before.same same;
      value = λ usable.
          let midway = (same usable).0 in
          let there : o ≡ newest (contents_in old).desk.templates name = is usable ∙ ap (λ (c : Contents). newest c.desk.templates name) (contents_stay old between before.same midway) in
          found_more (newest (contents_in old).desk.templates) found more names i name o below at (before.value midway) there put;
    }

pub templates_done : (names : List (List ℕ)) (i : ℕ) (old now : State) (found : TemplateMap) → TemplatesSoFar names i old now found → length names ≤ i → IsUsable now → found ≡ templates_named (contents_in old) names
templates_done names i old now found so_far all usable = so_far.value usable ∙ ap (templates_named (contents_in old)) (take_all i names all)

-- The templates to which a run is bound.

pub known_told : (name : List ℕ) (run : ℕ) (t : Tables) (found : Option TemplateMap) (cached : TemplateMap) → found ≡ Some cached → IsKnownIn name run t (option_map get found) → get cached ≡ known_in t name run
known_told name run t found cached is told = subst (λ (o : Option TemplateMap). IsKnownIn name run t (option_map get o)) is told
