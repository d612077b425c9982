-- A service's runs, read in pages.
use Rattle.std.specs.Prelude.{◌≡◌, ◌<◌, ◌≤◌, ◌==◌, Bool, ℕ, List, filter}
use Rattle.canary_plan.specs.declared.strategy.CheckedStrategy.{CheckedStrategy}
use Rattle.canary_once.specs.declared.record.RunRecord.{RunRecord}
use Rattle.canary_tables_rows.specs.declared.rows.BindingRow.{BindingRow}
use Rattle.canary_tables_rows.specs.declared.rows.RunRow.{RunRow}
use Rattle.canary_tables_rows.specs.declared.rows.TallyRow.{TallyRow}
use Rattle.canary_tables_rows.specs.Tables.{Tables, is_run, is_binding_of, is_tally_of}
use Rattle.canary_tables_read.specs.Pages.{is_run_between, is_binding_between, is_tally_between}
use Rattle.canary_tables_read.specs.Sorts.{Sorts, metric_of}
use Rattle.canary_tables_adopt.specs.declared.one_service.pages.RunPage.{RunPage}
use Rattle.canary_tables_adopt.specs.declared.one_service.runs.SoFar.{SoFar}
use Rattle.canary_tables_adopt.specs.OfService.{HasSuch, IsRunOf, AreRunsOf}
use Rattle.canary_tables_adopt.specs.Remembered.{Memo, AreRevisions}

-- the rows of the service's runs whose numbers are above one number, and at most another
pub record IsPageOf (name : List ℕ) (after last : ℕ) (t : Tables) (page : RunPage) : Type 0 where
  pub runs : page.runs ≡ filter (is_run_between name after last) t.runs
  pub bindings : page.bindings ≡ filter (is_binding_between name after last) t.bindings
  pub tallies : page.tallies ≡ filter (is_tally_between name after last) t.tallies

-- Which rows are of a number.

abbrev pub is_numbered : ℕ → RunRow → Bool
is_numbered number row = number == row.number

abbrev pub is_bound_at : ℕ → BindingRow → Bool
is_bound_at number row = number == row.run

abbrev pub is_tallied_at : ℕ → TallyRow → Bool
is_tallied_at number row = number == row.run

-- those rows of a page that are of one run, its tallies by their metrics
pub record AreCut (number : ℕ) (page rows : RunPage) : Type 0 where
  pub runs : rows.runs ≡ filter (is_numbered number) page.runs
  pub bindings : rows.bindings ≡ filter (is_bound_at number) page.bindings
  pub tallies : Sorts metric_of (filter (is_tallied_at number) page.tallies) rows.tallies

-- the rows of that run of the service, its tallies by their metrics
pub record AreRowsOf (name : List ℕ) (number : ℕ) (t : Tables) (rows : RunPage) : Type 0 where
  pub runs : rows.runs ≡ filter (is_run name number) t.runs
  pub bindings : rows.bindings ≡ filter (is_binding_of name number) t.bindings
  pub tallies : Sorts metric_of (filter (is_tally_of name number) t.tallies) rows.tallies

-- and templates that were asked for before
abbrev pub AreGiven : List ℕ → ℕ → RunPage → Memo → Tables → Type 0
AreGiven name number rows memo t = AreRowsOf name number t rows × AreRevisions memo t

-- there are runs of these numbers
abbrev pub AreThere : CheckedStrategy → List ℕ → ℕ → ℕ → Tables → Type 0
AreThere strategy name after last t =
    (number : ℕ) → after < number → number ≤ last → HasSuch (IsRunOf strategy name number) t

-- the first runs are judged, and templates that were asked for are kept
pub record AreSoFar (strategy : CheckedStrategy) (name : List ℕ) (so_far : SoFar)
    (t : Tables) : Type 0 where
  pub runs : AreRunsOf strategy name so_far.count t so_far.runs
  pub memo : AreRevisions so_far.memo t

-- what is so before the rows of a page are judged
abbrev pub AreBegun : CheckedStrategy → List ℕ → ℕ → ℕ → List RunRecord → Memo → RunPage → Tables
    → Type 0
AreBegun strategy name first last runs memo page t =
    (AreRunsOf strategy name first t runs × AreRevisions memo t) × IsPageOf name first last t page
