-- Laws of tables that are judged.
use Rattle.std.specs.Prelude.{◌≡◌, ◌↔◌, ◌⊎◌, ℕ, ◌≤◌, ◌<◌, true, List, [], length, filter, Option, Some, is_some}
use Rattle.std.specs.List.{AllByRecursion}
use Rattle.canary_plan.specs.declared.analysis_parts.AnalysisParts.{AnalysisParts}
use Rattle.canary_plan.specs.declared.strategy.CheckedStrategy.{CheckedStrategy}
use Rattle.canary_plan.specs.Plans.{bound_of, analysis_at, all_revisions, distinct}
use Rattle.canary_release.specs.Desks.{newest}
use Rattle.canary_tables_rows.specs.declared.rows.BindingRow.{BindingRow}
use Rattle.canary_tables_rows.specs.declared.rows.RevisionRow.{RevisionRow}
use Rattle.canary_tables_rows.specs.Tables.{Tables, is_revision, is_revision_of, is_binding_of}
use Rattle.canary_tables_rows.specs.Newest.{IsNewest}
use Rattle.canary_tables_contents.specs.Values.{revision_of_row}
use Rattle.canary_tables_contents.specs.Reading.{revision_bound, known_in, contents_of}
use Rattle.canary_tables_contents.specs.Finding.{IsFound}
use Rattle.canary_tables_contents.specs.Soundness.{AreSoundTables}
use Rattle.canary_tables_contents.specs.Judged.{AreTemplatesJudged, HoldTemplates}
use Rattle.canary_tables_contents.specs.Services.{AreServicesJudged, HoldServices, IsJudged}

-- the revisions of a name are 1 to n, with one row each, and no others
pub record CountUp (t : Tables) (name : List ℕ) : Type 0 where
  pub each : (number : ℕ) → 1 ≤ number
      → number ≤ length (filter (is_revision_of name) t.revisions)
      → length (filter (is_revision name number) t.revisions) ≡ 1
  pub others : (number : ℕ)
      → (number < 1) ⊎ (length (filter (is_revision_of name) t.revisions) < number)
      → filter (is_revision name number) t.revisions ≡ []

-- as soon as templates are judged, they do
abbrev pub JudgedRevisionsCountUp : Type 0
JudgedRevisionsCountUp = (t : Tables) → AreTemplatesJudged t → (name : List ℕ) → CountUp t name

-- and the row with the greatest number of a name is its newest revision
abbrev pub JudgedNewestAreFound : Type 0
JudgedNewestAreFound =
    (t : Tables) → AreTemplatesJudged t → (name : List ℕ) (row : Option RevisionRow)
    → IsNewest (filter (is_revision_of name) t.revisions) row
    → IsFound revision_of_row row (newest (contents_of t).desk.templates name)

-- each row of binding of a run names a revision that is there and read
abbrev pub NameRevisions : Tables → List ℕ → ℕ → Type 0
NameRevisions t name number =
    AllByRecursion (λ (row : BindingRow). is_some (revision_bound t.revisions row) ≡ true)
    (filter (is_binding_of name number) t.bindings)

-- if the present attempt has a row of binding for each of its templates, and no others, each
-- names a revision
abbrev pub AttemptsNameRevisions : Type 0
AttemptsNameRevisions =
    (t : Tables) (name : List ℕ) (strategy : CheckedStrategy)
    → length (filter (is_binding_of name 0) t.bindings)
    ≡ length (distinct (all_revisions (bound_of (known_in t name 0) strategy)))
    → NameRevisions t name 0

-- and so if a run has one for each template of its analysis
abbrev pub RunsNameRevisions : Type 0
RunsNameRevisions =
    (t : Tables) (name : List ℕ) (number : ℕ) (strategy : CheckedStrategy) (step : Option ℕ)
    (analysis : AnalysisParts)
    → analysis_at (bound_of (known_in t name number) strategy) step ≡ Some analysis
    → length (filter (is_binding_of name number) t.bindings) ≡ length (distinct analysis.revisions)
    → NameRevisions t name number

-- if templates are those of contents
abbrev pub ServicesAreJudged : Type 0
ServicesAreJudged = (t : Tables) → HoldTemplates t → AreServicesJudged t ↔ HoldServices t

-- tables are judged exactly if they are those of sound contents
abbrev pub JudgingIsExact : Type 0
JudgingIsExact = (t : Tables) → IsJudged t ↔ AreSoundTables t
