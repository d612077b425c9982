-- When a database stores rows, and what a statement does to them.
use Rattle.std.specs.Prelude.{◌≡◌, IsTrue, ℕ, List, map, Result, OnOk}
use Rattle.std.specs.List.{AllByRecursion}
use Rattle.sqlite.specs.State.{State, HasCleanDisk, Survives, KeepsCommit}
use Rattle.sqlite.specs.Tree.{Trees}
use Rattle.sqlite.specs.Effect.{Database}
use Rattle.sqlite_value.specs.Order.{Row}
use Rattle.sqlite_trees.specs.declared.store.Shape.TheVariants as shape
use Rattle.sqlite_trees.specs.View.{IsShaped}
use Rattle.canary_tables_rows.specs.Tables.{Tables}
use Rattle.canary_tables_schema.specs.Layout.{Layout, desk_trees, service_at, run_at, measurement_at, history_at, revision_at, binding_at, tally_at}
use Rattle.canary_tables_schema.specs.Schema.{schema_at}
use Rattle.canary_tables_schema.specs.Cells.{cells_of, meta_rows, caller_cells, kept_cells, revision_cells, binding_cells, service_cells, run_cells, tally_cells, measurement_cells, history_cells}

-- the connection shows what its tables are: nothing wrong was read, and the disk did not fail
pub record IsUsable (s : State) : Type 0 where
  pub clean : HasCleanDisk s
  pub is_open : IsTrue s.is_open

-- the rowids are whole numbers, and rise, so that none comes twice
abbrev pub IsNumbered : List Row → Type 0
IsNumbered = IsShaped shape.Table

-- so in each of the ten tables
abbrev pub AreNumbered : Layout → Trees → Type 0
AreNumbered at trees = AllByRecursion (λ k. IsNumbered (trees k)) (desk_trees at)

-- a database is a desk's in this layout, and holds just these rows, in the order of their rowids
pub record Holds (at : Layout) (db : Database) (t : Tables) : Type 0 where
  pub schema : db.schema ≡ schema_at at
  pub numbered : AreNumbered at db.trees
  pub meta : db.trees 0 ≡ meta_rows
  pub callers : cells_of (db.trees 1) ≡ map caller_cells t.callers
  pub kept : cells_of (db.trees 3) ≡ map kept_cells t.kept
  pub services : cells_of (db.trees (service_at at)) ≡ map service_cells t.services
  pub runs : cells_of (db.trees (run_at at)) ≡ map run_cells t.runs
  pub measurements : cells_of (db.trees (measurement_at at))
      ≡ map measurement_cells t.measurements
  pub history : cells_of (db.trees (history_at at)) ≡ map history_cells t.history
  pub revisions : cells_of (db.trees (revision_at at)) ≡ map revision_cells t.revisions
  pub bindings : cells_of (db.trees (binding_at at)) ≡ map binding_cells t.bindings
  pub tallies : cells_of (db.trees (tally_at at)) ≡ map tally_cells t.tallies

-- so in one of the layouts
pub record IsHeld (db : Database) (t : Tables) : Type 0 where
  pub layout : Layout
  pub holds : Holds layout db t

-- the connection's database is a desk's, and holds just these rows
abbrev pub Stores : State → Tables → Type 0
Stores s t = IsHeld s.now t

-- so inside a transaction
pub record IsReady (s : State) (t : Tables) : Type 0 where
  pub live : IsTrue s.in_transaction
  pub stores : Stores s t

-- What a statement inside a transaction does.

-- it changes the rows so
abbrev pub Wrote : {A E : Type 0} → (Tables → Tables) → State → State → Result A E → Type 0
Wrote change old new result =
    HasCleanDisk new → (t : Tables) → IsReady old t → OnOk result (IsReady new (change t))

-- it changes the rows so, if they are as it asks
abbrev pub WroteIf : {A E : Type 0} → (Tables → Type 0) → (Tables → Tables) → State → State
    → Result A E → Type 0
WroteIf asks change old new result =
    HasCleanDisk new → (t : Tables) → IsReady old t → asks t → OnOk result (IsReady new (change t))

-- the transaction goes on
abbrev pub StaysLive : {A E : Type 0} → State → State → Result A E → Type 0
StaysLive old new result =
    HasCleanDisk new → IsTrue old.in_transaction → OnOk result (IsTrue new.in_transaction)

-- what was committed stays, as long as the transaction goes on
abbrev pub StaysCommitted : State → State → Type 0
StaysCommitted old new = HasCleanDisk new → IsTrue old.in_transaction → KeepsCommit old new

-- a power cut leaves what was committed
abbrev pub SurvivesCut : State → State → Type 0
SurvivesCut old new = Survives old new (λ _. ⊥)

-- A write stays on its connection; its transaction goes on if it succeeded; what was committed
-- stays, and a power cut leaves it.
pub record Writes {A E : Type 0} (old_name new_name : ℕ) (old new : State)
    (result : Result A E) : Type 0 where
  pub same_reference : new_name ≡ old_name
  pub live : StaysLive old new result
  pub kept : StaysCommitted old new
  pub survives : SurvivesCut old new
