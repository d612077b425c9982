-- Rows of binding that are as many as the templates of a run name revisions that are there.
use Rattle.std.proofs.Common.{◌≡◌, inl, inr, ℕ, List, [], ◌∷◌, length, true, Some, None, refl, sym, ap, ◌∙◌, subst}
use Rattle.std.specs.Prelude.{Option, filter, find, is_some, option_and_then}
use Rattle.std.specs.List.{AllByRecursion}
use Rattle.canary_plan.specs.declared.analysis_parts.Revision.{Revision}
use Rattle.canary_plan.specs.Plans.{bound_of, all_revisions, distinct}
use Rattle.canary_tables_rows.specs.declared.rows.BindingRow.{BindingRow}
use Rattle.canary_tables_rows.specs.Tables.{Tables, is_binding, is_binding_of}
use Rattle.canary_tables_contents.specs.Values.{binding_row}
use Rattle.canary_tables_contents.specs.Tables.{row_if, is_of_template}
use Rattle.canary_tables_contents.specs.Reading.{first_row, revision_bound, known_in}
use Rattle.canary_tables_contents.specs.JudgedLaws.{NameRevisions, AttemptsNameRevisions, RunsNameRevisions}
use Rattle.canary_tables_contents.proofs.Named.{IsIn, each_in}
use Rattle.canary_tables_contents.proofs.KnownRevisions.{IsKnown, IsFirst, found_has, all_known, analysis_known}
use Rattle.canary_tables_contents.proofs.BindingRows.{bindings_of_number, has_binding_key}

-- a row among those of its key is the one that is read
named_by : (t : Tables) (name : List ℕ) (number : ℕ) (rs : List Revision) (row : BindingRow) (o : Option Revision) → AllByRecursion (IsKnown (known_in t name number)) rs → find (is_of_template row.template) rs ≡ o
    → filter (is_binding name number row.template) t.bindings ≡ row_if (binding_row name number) o → IsIn row (row_if (binding_row name number) o) → is_some (revision_bound t.revisions row) ≡ true
named_by t name number rs row None known found rows at = absurd at
named_by t name number rs row (Some r) known found rows (inr at) = absurd at
named_by t name number rs row (Some r) known found rows (inl same) =
    let first : IsFirst (IsKnown (known_in t name number)) row.template r = found_has (IsKnown (known_in t name number)) row.template rs r known found in
    let there : known_in t name number row.template ≡ Some first.has.value = ap (known_in t name number) (sym first.named) ∙ first.has.there in
    let read : revision_bound t.revisions (binding_row name number r) ≡ Some first.has.value = sym (ap (λ (l : List BindingRow). option_and_then (revision_bound t.revisions) (first_row l)) rows) ∙ there in
    ap (λ (x : BindingRow). is_some (revision_bound t.revisions x)) (sym same) ∙ ap (λ (o : Option _). is_some o) read

name_revisions : (t : Tables) (name : List ℕ) (number : ℕ) (rs : List Revision) → AllByRecursion (IsKnown (known_in t name number)) rs → length (filter (is_binding_of name number) t.bindings) ≡ length (distinct rs) → NameRevisions t name number
name_revisions t name number rs known many =
    each_in (λ (row : BindingRow). is_some (revision_bound t.revisions row) ≡ true) (filter (is_binding_of name number) t.bindings) (λ row at.
    let rows : filter (is_binding name number row.template) t.bindings ≡ row_if (binding_row name number) (find (is_of_template row.template) rs) = bindings_of_number t name number rs known many row.template in
    named_by t name number rs row (find (is_of_template row.template) rs) known refl rows (subst (IsIn row) rows (has_binding_key t name number row at)))

pub attempts_name_revisions : AttemptsNameRevisions
attempts_name_revisions t name strategy many = name_revisions t name 0 (all_revisions (bound_of (known_in t name 0) strategy)) (all_known (known_in t name 0) strategy) many

pub runs_name_revisions : RunsNameRevisions
runs_name_revisions t name number strategy step analysis is many = name_revisions t name number analysis.revisions (analysis_known (known_in t name number) strategy step analysis is) many
