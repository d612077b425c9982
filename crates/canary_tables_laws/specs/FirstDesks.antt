-- A desk's database of the first schema, and what becomes of it, without a definition of
-- canary_migrate.
use Rattle.std.specs.Prelude.{◌≡◌, ℕ, IsTrue, List, [], ◌∷◌, map, Some, None, Contains}
use Rattle.std.specs.List.{AllByRecursion}
use Rattle.std.specs.FinMap.{get}
use Rattle.sqlite.specs.Effect.{Database}
use Rattle.sqlite.specs.State.{State}
use Rattle.sqlite_value.specs.declared.value.Value.TheVariants.{Text as Words}
use Rattle.sqlite_value.specs.Order.{Row}
use Rattle.canary_plan.specs.declared.template.Template.{Template}
use Rattle.canary_plan.specs.declared.template_spec.MetricSpec.{MetricSpec}
use Rattle.canary_release.specs.Desks.{ModelService}
use Rattle.canary_release.specs.Parts.{is_bound}
use Rattle.canary_once.specs.Contents.{Contents}
use Rattle.canary_once.specs.Sound.{AreContents, AreSoundContents}
use Rattle.canary_tables_rows.specs.declared.rows.RevisionRow.{RevisionRow}
use Rattle.canary_tables_rows.specs.declared.rows.TallyRow.{TallyRow}
use Rattle.canary_tables_rows.specs.Limits.{AreWithin}
use Rattle.canary_tables_rows.specs.Tables.{Tables}
use Rattle.canary_tables_schema.specs.Cells.{cells_of, tables_in, integer, whole_or_null, caller_cells, kept_cells, service_cells, run_cells, measurement_cells, history_cells}
use Rattle.canary_tables_schema.specs.First.{first_schema, meta_shown, HasFirstMeta}
use Rattle.canary_tables_schema.specs.Stores.{IsHeld}
use Rattle.canary_tables_contents.specs.Reading.{contents_of}
use Rattle.canary_tables_contents.specs.Tables.{AreRows, IsReadable}
use Rattle.canary_tables_read.specs.First.{template_shown, tally_shown}

-- Contents.

-- the one revision of a template, in which no metric has `passAfter`
pub record IsOnlyRevision (ts : List Template) (t : Template) : Type 0 where
  pub only : ts ≡ t ∷ []
  pub no_passes : AllByRecursion (λ (m : MetricSpec). m.pass_after ≡ None) t.spec.metrics

-- those that the first schema could have: each template has one such revision, and each service's
-- present attempt is bound, to that of each of its templates, since there is no other
pub record AreOfFirstSchema (c : Contents) : Type 0 where
  pub templates : (name : List ℕ) (ts : List Template) → get c.desk.templates name ≡ Some ts
      → (t : Template) × IsOnlyRevision ts t
  pub services : (name : List ℕ) (s : ModelService) → get c.desk.services name ≡ Some s
      → IsTrue (is_bound s.service)

-- Rows.

-- a template in place of its revision, without the number
abbrev pub unnumbered_cells : RevisionRow → Row
unnumbered_cells row = Words row.name ∷ Words row.spec ∷ []

-- a tally without its passes
abbrev pub passless_cells : TallyRow → Row
passless_cells row =
    Words row.service ∷ integer row.run ∷ integer row.metric ∷ integer row.counts.counted
    ∷ integer row.counts.failed ∷ integer row.counts.inconclusive ∷ integer row.counts.errors
    ∷ integer row.counts.consecutive ∷ whole_or_null row.counts.last ∷ []

-- the database is of the first schema, and holds just what that has of a desk's rows: nothing of
-- its bindings
pub record HoldsFirstOf (db : Database) (t : Tables) : Type 0 where
  pub schema : db.schema ≡ first_schema
  pub meta : HasFirstMeta (db.trees 0)
  pub callers : cells_of (db.trees 1) ≡ map caller_cells t.callers
  pub kept : cells_of (db.trees 3) ≡ map kept_cells t.kept
  pub templates : map template_shown (db.trees 5) ≡ map unnumbered_cells t.revisions
  pub services : cells_of (db.trees 7) ≡ map service_cells t.services
  pub runs : cells_of (db.trees 9) ≡ map run_cells t.runs
  pub tallies : map tally_shown (db.trees 11) ≡ map passless_cells t.tallies
  pub measurements : cells_of (db.trees 13) ≡ map measurement_cells t.measurements
  pub history : cells_of (db.trees 16) ≡ map history_cells t.history

-- it holds the rows of these contents, which are sound, and a program can hold each row
pub record HoldsFirstContents (db : Database) (c : Contents) : Type 0 where
  pub first : AreOfFirstSchema c
  pub rows : Tables
  pub are : AreRows rows c
  pub held : HoldsFirstOf db rows
  pub within : AreWithin rows
  pub readable : IsReadable c
  pub lawful : AreContents c
  pub sound : AreSoundContents c

abbrev pub HoldsSoundFirst : Database → Type 0
HoldsSoundFirst db = (c : Contents) × HoldsFirstContents db c

-- What becomes of it.

-- just the tables and indexes of the first schema are there, and meta shows a row 1, 1, among
-- others or alone
abbrev pub IsFirstWithMeta : Database → Type 0
IsFirstWithMeta db =
    (db.schema ≡ first_schema) × Contains (map meta_shown (db.trees 0)) (integer 1 ∷ integer 1 ∷ [])

-- it is a desk's now, of sound contents that the first schema could have, and held what that has of
-- these rows; whichever sound contents it held, it contains these
pub record IsDeskOfFirst (old new : State) : Type 0 where
  pub stores : IsHeld new.now (tables_in new.now)
  pub rows : AreRows (tables_in new.now) (contents_of (tables_in new.now))
  pub lawful : AreContents (contents_of (tables_in new.now))
  pub sound : AreSoundContents (contents_of (tables_in new.now))
  pub first : AreOfFirstSchema (contents_of (tables_in new.now))
  pub held : HoldsFirstOf old.now (tables_in new.now)
  pub contents : (c : Contents) → HoldsFirstContents old.now c
      → contents_of (tables_in new.now) ≡ c
