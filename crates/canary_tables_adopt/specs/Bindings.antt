-- The templates to which a run of a service is bound, by its rows of binding. Run 0 stands for the
-- present attempt.
use Rattle.std.specs.Prelude.{◌≡◌, ℕ, List, length, filter, Option, Some, None, option_and_then}
use Rattle.std.specs.List.{AllByRecursion}
use Rattle.std.specs.Str.{bytes_eq}
use Rattle.canary_plan.specs.declared.analysis_parts.AnalysisParts.{AnalysisParts}
use Rattle.canary_plan.specs.declared.bound.BoundParts.{BoundParts}
use Rattle.canary_plan.specs.declared.strategy.CheckedStrategy.{CheckedStrategy}
use Rattle.canary_plan.specs.declared.template.Template.{Template}
use Rattle.canary_plan.specs.Plans.{Templates, bound_of, analysis_at, all_revisions, distinct}
use Rattle.canary_plan.specs.PlanRefusals.{template_refusal}
use Rattle.canary_tables_rows.specs.declared.rows.BindingRow.{BindingRow}
use Rattle.canary_tables_rows.specs.Tables.{Tables, is_binding_of}
use Rattle.canary_tables_contents.specs.Reading.{first_row, revision_bound, known_in}
use Rattle.canary_tables_adopt.specs.declared.bindings.Binding.{Binding}

-- the row names a revision that is there, and is read as an accepted template
pub record IsBinding (t : Tables) (row : BindingRow) : Type 0 where
  pub template : Template
  pub is : revision_bound t.revisions row ≡ Some template
  pub accepted : template_refusal template.spec ≡ None

-- the template of the revision that a row names; none if it names none
abbrev pub IsTemplateOf : BindingRow → Tables → Option Template → Type 0
IsTemplateOf row t (Some template) = revision_bound t.revisions row ≡ Some template
IsTemplateOf row t None = ¬ IsBinding t row

-- the template that the first of these rows names under its name
abbrev pub known_of : Tables → List BindingRow → Templates
known_of t rows name =
    option_and_then (revision_bound t.revisions)
    (first_row (filter (λ (row : BindingRow). bytes_eq name row.template) rows))

-- each of these rows names one
abbrev pub AreBindings : Tables → List BindingRow → Type 0
AreBindings t rows = AllByRecursion (IsBinding t) rows

-- what the rows of a run make known; none if one of them names no revision
abbrev pub IsKnownBy : List BindingRow → Tables → Option Templates → Type 0
IsKnownBy rows t (Some known) = known ≡ known_of t rows
IsKnownBy rows t None = ¬ AreBindings t rows

-- each row of binding of a run names a revision that is there, and accepted
abbrev pub IsBoundWhole : List ℕ → ℕ → Tables → Type 0
IsBoundWhole service run t = AreBindings t (filter (is_binding_of service run) t.bindings)

-- the templates to which a run is bound; none if a row of its binding names no revision
abbrev pub IsKnownIn : List ℕ → ℕ → Tables → Option Templates → Type 0
IsKnownIn service run t (Some known) = known ≡ known_in t service run
IsKnownIn service run t None = ¬ IsBoundWhole service run t

-- what the rows of binding of a run make of a strategy, and how many there are
pub record IsBindingOf (service : List ℕ) (run : ℕ) (strategy : CheckedStrategy) (t : Tables)
    (binding : Binding) : Type 0 where
  pub bound : binding.bound ≡ bound_of (known_in t service run) strategy
  pub rows : binding.rows ≡ length (filter (is_binding_of service run) t.bindings)

-- what these rows of binding make of a strategy, and how many they are
pub record IsBoundBy (rows : List BindingRow) (strategy : CheckedStrategy) (t : Tables)
    (binding : Binding) : Type 0 where
  pub bound : binding.bound ≡ bound_of (known_of t rows) strategy
  pub many : binding.rows ≡ length rows

-- what the present attempt is bound to, which has no other rows of binding
pub record IsAttemptBound (service : List ℕ) (strategy : CheckedStrategy) (t : Tables)
    (bound : BoundParts) : Type 0 where
  pub is : bound ≡ bound_of (known_in t service 0) strategy
  pub rows : length (filter (is_binding_of service 0) t.bindings)
      ≡ length (distinct (all_revisions bound))

-- the analysis of a run at that step, which has no other rows of binding
pub record IsRunBound (service : List ℕ) (run : ℕ) (strategy : CheckedStrategy) (step : Option ℕ)
    (t : Tables) (analysis : AnalysisParts) : Type 0 where
  pub is : analysis_at (bound_of (known_in t service run) strategy) step ≡ Some analysis
  pub rows : length (filter (is_binding_of service run) t.bindings)
      ≡ length (distinct analysis.revisions)
