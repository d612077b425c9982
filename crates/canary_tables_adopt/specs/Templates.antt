-- Templates, revision by revision.
use Rattle.std.specs.Prelude.{◌≡◌, ℕ, ◌-◌, ◌≤◌, true, List, Option, Some, None}
use Rattle.canary_plan.specs.declared.template.Template.{Template}
use Rattle.canary_plan.specs.PlanRefusals.{template_refusal}
use Rattle.canary_tables_rows.specs.declared.rows.RevisionRow.{RevisionRow}
use Rattle.canary_tables_rows.specs.Tables.{Tables}
use Rattle.canary_tables_contents.specs.Values.{revision_of_row}
use Rattle.canary_tables_read.specs.declared.lists.RevisionKey.{RevisionKey}
use Rattle.canary_tables_read.specs.Keys.{key_of}
use Rattle.canary_tables_contents.specs.Judged.{has_revision, IsRevisionJudged}

-- a row is read as this template, which nothing refuses
pub record IsAcceptedAs (row : RevisionRow) (template : Template) : Type 0 where
  pub is : revision_of_row row ≡ Some template
  pub accepted : template_refusal template.spec ≡ None

-- a row is read as this template, which nothing refuses; none if there is no such one
abbrev pub IsReadAs : RevisionRow → Option Template → Type 0
IsReadAs row (Some template) = IsAcceptedAs row template
IsReadAs row None = (template : Template) → ¬ IsAcceptedAs row template

-- a row is read as an accepted template of its name
pub record IsAccepted (row : RevisionRow) : Type 0 where
  pub read : Template
  pub is : IsAcceptedAs row read
  pub named : read.spec.name ≡ row.name

-- the number is 1 to 1,000,000, and the revision before it is there, but for the first
pub record IsNumbered (t : Tables) (key : RevisionKey) : Type 0 where
  pub some : 1 ≤ key.revision
  pub most : key.revision ≤ 1000000
  pub before : 2 ≤ key.revision → has_revision t key.name (key.revision - 1) ≡ true

-- the revision of that key is as it is to be
pub record IsJudgedUnder (t : Tables) (key : RevisionKey) : Type 0 where
  pub row : RevisionRow
  pub keyed : key_of row ≡ key
  pub has : IsRevisionJudged t row
