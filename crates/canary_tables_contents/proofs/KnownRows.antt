-- If templates are those of contents, the rows of binding of a run name revisions of them.
use Rattle.std.proofs.Common.{◌≡◌, ℕ, zero, suc, ◌==◌, List, [], Bool, true, false, Some, None, refl, sym, ap, ◌∙◌}
use Rattle.std.specs.Prelude.{Option, ◌&&◌, filter, slice_get, option_map, option_and_then}
use Rattle.std.specs.Str.{bytes_eq}
use Rattle.canary_plan.specs.declared.template.Template.{Template}
use Rattle.canary_release.specs.Desks.{revisions_of}
use Rattle.canary_release.specs.Order.{at_revision, known_by}
use Rattle.canary_tables_rows.specs.declared.rows.BindingRow.{BindingRow}
use Rattle.canary_tables_rows.specs.declared.rows.RevisionRow.{RevisionRow}
use Rattle.canary_tables_rows.specs.Tables.{Tables, is_revision, is_binding}
use Rattle.canary_tables_contents.specs.Values.{revision_row, revision_of_row}
use Rattle.canary_tables_contents.specs.Tables.{row_if}
use Rattle.canary_tables_contents.specs.Reading.{first_row, revision_bound, known_in, contents_of}
use Rattle.canary_tables_contents.specs.Judged.{HoldTemplates}
use Rattle.canary_tables_contents.proofs.Named.{equal_keys}
use Rattle.canary_tables_contents.proofs.Templates.{is_revision_at}
use Rattle.canary_tables_contents.proofs.BindingRows.{first_of}

-- A revision.

read_rows : List RevisionRow → Option Template
read_rows rows = option_and_then revision_of_row (first_row rows)

if_back : (q : List ℕ) (o : Option Template) → ((x : Template) → o ≡ Some x → revision_of_row (revision_row q x) ≡ Some x) → option_and_then revision_of_row (first_row (row_if (revision_row q) o)) ≡ o
if_back q None back = refl
if_back q (Some x) back = back x refl

pub revision_there : (t : Tables) → HoldTemplates t → (q : List ℕ) (number : ℕ) → option_and_then revision_of_row (first_row (filter (is_revision q number) t.revisions)) ≡ at_revision (revisions_of (contents_of t).desk.templates q) (Some number)
revision_there t hold q zero = ap (λ (rows : List RevisionRow). option_and_then revision_of_row (first_row rows)) (hold.revisions q 0)
revision_there t hold q (suc place) =
    let o : Option Template = slice_get (revisions_of (contents_of t).desk.templates q) place in
    ap (λ (rows : List RevisionRow). option_and_then revision_of_row (first_row rows)) (hold.revisions q (suc place)) ∙ if_back q o (λ x e. (is_revision_at t hold q place x e).back)

-- What is known by the rows of a run.

-- the revision that a run's row of binding names
abbrev pub binding_in : Tables → List ℕ → ℕ → List ℕ → Option ℕ
binding_in t name number template = option_map (λ (row : BindingRow). row.revision) (first_row (filter (is_binding name number template) t.bindings))

second : (a b : Bool) → a && b ≡ true → b ≡ true
second true b e = e
second false b e = absurd (cc)

its_template : (t : Tables) (name : List ℕ) (number : ℕ) (template : List ℕ) (row : BindingRow) → first_row (filter (is_binding name number template) t.bindings) ≡ Some row → template ≡ row.template
its_template t name number template row e =
    let passes : is_binding name number template row ≡ true = first_of (is_binding name number template) t.bindings row e in
    equal_keys template row.template (second (number == row.run) (bytes_eq template row.template) (second (bytes_eq name row.service) ((number == row.run) && bytes_eq template row.template) passes))

known_at : (t : Tables) → HoldTemplates t → (template : List ℕ) (o : Option BindingRow) → ((row : BindingRow) → o ≡ Some row → template ≡ row.template)
    → option_and_then (revision_bound t.revisions) o ≡ at_revision (revisions_of (contents_of t).desk.templates template) (option_map (λ (row : BindingRow). row.revision) o)
known_at t hold template None named = refl
known_at t hold template (Some row) named =
    revision_there t hold row.template row.revision ∙ ap (λ n. at_revision (revisions_of (contents_of t).desk.templates n) (Some row.revision)) (sym (named row refl))

-- it is what the revisions of contents give by these numbers
pub known_same : (t : Tables) → HoldTemplates t → (name : List ℕ) (number : ℕ) → known_in t name number ≡ known_by (contents_of t).desk.templates (binding_in t name number)
known_same t hold name number =
    λ i template. known_at t hold template (first_row (filter (is_binding name number template) t.bindings)) (λ row e. its_template t name number template row e) i
