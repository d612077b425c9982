-- Templates that were asked for before, of each the revision that was asked for last.
use Rattle.std.specs.Prelude.{◌≡◌, ℕ, List, filter, Option, Some, option_and_then, Result, Err, IfOk}
use Rattle.std.specs.FinMap.{FinMap, get}
use Rattle.std.specs.Ordering.{nat_cmp}
use Rattle.std.specs.Cmp.Lexicographic.{slice_cmp}
use Rattle.sqlite.specs.State.{State}
use Rattle.canary_plan.specs.declared.template.Template.{Template}
use Rattle.canary_tables_rows.specs.declared.rows.BindingRow.{BindingRow}
use Rattle.canary_tables_rows.specs.Limits.{AreWithin}
use Rattle.canary_tables_rows.specs.Tables.{Tables, is_revision, is_binding_of}
use Rattle.canary_tables_schema.specs.Stores.{IsUsable, Stores}
use Rattle.canary_tables_contents.specs.Reading.{first_row}
use Rattle.canary_tables_contents.specs.Values.{revision_of_row}
use Rattle.canary_tables_contents.specs.Judged.{AreTemplatesJudged}
use Rattle.canary_tables_read.specs.declared.fault.ReadFault.{ReadFault}
use Rattle.canary_tables_read.specs.declared.fault.ReadFault.TheVariants.{Broken}

-- If something is so of the tables.

-- it finds such a value
abbrev pub FindsWhere : {A F : Type 0} → (Tables → Type 0) → (Tables → A → Type 0) → State → State
    → Result A F → Type 0
FindsWhere given such old new result =
    IsUsable new → (t : Tables) → Stores old t → given t → IfOk result (such t)

-- and templates are judged: it reports that the tables are broken only if a program cannot hold a
-- row of theirs, or this is not so of them
abbrev pub RefusesWhere : {A : Type 0} → (Tables → Type 0) → (Tables → Type 0) → State → State
    → Result A ReadFault → Type 0
RefusesWhere given P old new result =
    IsUsable new → (t : Tables) → Stores old t → AreTemplatesJudged t → given t
    → result ≡ Err Broken → AreWithin t → ¬ P t

-- Templates.

abbrev pub Memo : Type 0
Memo = FinMap (slice_cmp nat_cmp) Template

-- the template of that revision
abbrev pub revision_in : Tables → List ℕ → ℕ → Option Template
revision_in t name number =
    option_and_then revision_of_row (first_row (filter (is_revision name number) t.revisions))

-- each of them is the template of its revision
abbrev pub AreRevisions : Memo → Tables → Type 0
AreRevisions memo t =
    (name : List ℕ) (template : Template) → get memo name ≡ Some template
    → revision_in t name template.revision ≡ Some template

-- and these are the rows of binding of that run of the service
abbrev pub AreBindingsOf : List ℕ → ℕ → List BindingRow → Memo → Tables → Type 0
AreBindingsOf service run rows memo t =
    (rows ≡ filter (is_binding_of service run) t.bindings) × AreRevisions memo t
