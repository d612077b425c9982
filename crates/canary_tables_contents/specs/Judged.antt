-- What is judged key by key: what stands under each key that rows name, and how many rows there
-- are.
use Rattle.std.specs.Prelude.{◌≡◌, ◌↔◌, ℕ, ◌-◌, ◌≤◌, Bool, true, List, [], ◌∷◌, length, filter, Option, Some, None, is_some}
use Rattle.std.specs.List.{AllByRecursion, sum_by}
use Rattle.std.specs.FinMap.{get}
use Rattle.canary_plan.specs.declared.template.Template.{Template}
use Rattle.canary_plan.specs.declared.command.Command.TheVariants as command
use Rattle.canary_plan.specs.PlanRefusals.{template_refusal}
use Rattle.canary_release.specs.Desks.{revisions_of}
use Rattle.canary_release.specs.Order.{IsInRevisions}
use Rattle.canary_once.specs.declared.book.Receipt.{Receipt}
use Rattle.canary_once.specs.Contents.{receipts_of, receipt_at, HaveReceipts, KeepsSettled}
use Rattle.canary_tables_rows.specs.declared.rows.CallerRow.{CallerRow}
use Rattle.canary_tables_rows.specs.declared.rows.RevisionRow.{RevisionRow}
use Rattle.canary_tables_rows.specs.Tables.{Tables, is_caller, is_kept, is_revision}
use Rattle.canary_tables_contents.specs.Values.{caller_row, receipt_of_row, revision_of_row}
use Rattle.canary_tables_contents.specs.Tables.{row_if, kept_rows, revision_rows, IsReadableCommand}
use Rattle.canary_tables_contents.specs.Reading.{first_row, contents_of}

-- just one row passes, and it is read
pub record IsOneRead {R A : Type 0} (test : R → Bool) (value : R → Option A)
    (rows : List R) : Type 0 where
  pub row : R
  pub one : filter test rows ≡ row ∷ []
  pub read : A
  pub is : value row ≡ Some read

-- Callers and receipts.

-- a caller's row: no other has its name, and each of its numbers has one row, which is read
pub record IsCallerJudged (t : Tables) (row : CallerRow) : Type 0 where
  pub one : filter (is_caller row.name) t.callers ≡ row ∷ []
  pub some : 1 ≤ row.settled
  pub within : row.settled ≤ 1000000000
  pub kept : (number : ℕ) → 1 ≤ number → number ≤ row.settled
      → IsOneRead (is_kept row.name number) receipt_of_row t.kept

-- there are no more kept rows than these
pub record AreCallersJudged (t : Tables) : Type 0 where
  pub each : AllByRecursion (IsCallerJudged t) t.callers
  pub all : sum_by (λ (row : CallerRow). row.settled) t.callers ≡ length t.kept

-- what of tables that hold contents is of callers and receipts alone
pub record HoldCallers (t : Tables) : Type 0 where
  pub callers : (name : List ℕ)
      → filter (is_caller name) t.callers
      ≡ row_if (λ receipts. caller_row name (length receipts)) (get (contents_of t).callers name)
  pub kept : (caller : List ℕ) (number : ℕ)
      → filter (is_kept caller number) t.kept
      ≡ kept_rows caller number (receipts_of (contents_of t) caller)
  pub readable : (caller : List ℕ) (number : ℕ) (receipt : Receipt)
      → receipt_at (contents_of t) caller number ≡ Some receipt → IsReadableCommand receipt.command
  pub numbers : HaveReceipts (contents_of t).callers
  pub statuses : KeepsSettled (contents_of t)

abbrev pub CallersAreJudged : Type 0
CallersAreJudged = (t : Tables) → AreCallersJudged t ↔ HoldCallers t

-- Templates, revision by revision.

-- there is that revision of the template
abbrev pub has_revision : Tables → List ℕ → ℕ → Bool
has_revision t name number = is_some (first_row (filter (is_revision name number) t.revisions))

-- a revision's row: no other has its name and number, which is 1 to 1,000,000; the one before it is
-- there, but for the first; and it is read as an accepted template of its name
pub record IsRevisionJudged (t : Tables) (row : RevisionRow) : Type 0 where
  pub one : filter (is_revision row.name row.revision) t.revisions ≡ row ∷ []
  pub some : 1 ≤ row.revision
  pub most : row.revision ≤ 1000000
  pub before : 2 ≤ row.revision → has_revision t row.name (row.revision - 1) ≡ true
  pub read : Template
  pub is : revision_of_row row ≡ Some read
  pub named : read.spec.name ≡ row.name
  pub accepted : template_refusal read.spec ≡ None

abbrev pub AreTemplatesJudged : Tables → Type 0
AreTemplatesJudged t = AllByRecursion (IsRevisionJudged t) t.revisions

-- what of tables that hold contents is of templates alone
pub record HoldTemplates (t : Tables) : Type 0 where
  pub revisions : (name : List ℕ) (number : ℕ)
      → filter (is_revision name number) t.revisions
      ≡ revision_rows name number (revisions_of (contents_of t).desk.templates name)
  pub readable : (name : List ℕ)
      → AllByRecursion (λ (x : Template). IsReadableCommand (command.Template x.spec))
      (revisions_of (contents_of t).desk.templates name)
  pub are : (name : List ℕ) (found : List Template)
      → get (contents_of t).desk.templates name ≡ Some found → IsInRevisions name found

abbrev pub TemplatesAreJudged : Type 0
TemplatesAreJudged = (t : Tables) → AreTemplatesJudged t ↔ HoldTemplates t
