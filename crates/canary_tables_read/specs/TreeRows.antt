-- When a tree's rows are those of a table.
use Rattle.std.specs.Prelude.{◌≡◌, List, map, Result, Err, OnOk}
use Rattle.sqlite.specs.State.{State}
use Rattle.sqlite.specs.Effect.{Database}
use Rattle.sqlite_value.specs.Order.{Row}
use Rattle.canary_tables_schema.specs.Layout.{Layout, service_at, run_at, measurement_at, history_at, revision_at, binding_at, tally_at}
use Rattle.canary_tables_schema.specs.Schema.{schema_at}
use Rattle.canary_tables_schema.specs.Cells.{cells_of, caller_cells, kept_cells, service_cells, run_cells, measurement_cells, history_cells, revision_cells, binding_cells, tally_cells}
use Rattle.canary_tables_schema.specs.Stores.{IsUsable}
use Rattle.canary_tables_schema.specs.Formed.{IsFormed, HasRows, HasWholeTallies}
use Rattle.canary_tables_read.specs.declared.fault.ReadFault.{ReadFault}
use Rattle.canary_tables_read.specs.declared.fault.ReadFault.TheVariants.{Broken}

-- they have the cells of such rows, whichever they are
abbrev pub HasCells : {X : Type 0} → (X → Row) → List Row → Type 0
HasCells cells rows = (all : List _) × (cells_of rows ≡ map cells all)

-- so in a table of a desk
abbrev pub HasCallers : Layout → Database → Type 0
HasCallers at db = HasCells caller_cells (db.trees 1)

abbrev pub HasKept : Layout → Database → Type 0
HasKept at db = HasCells kept_cells (db.trees 3)

abbrev pub HasServices : Layout → Database → Type 0
HasServices at db = HasCells service_cells (db.trees (service_at at))

abbrev pub HasRuns : Layout → Database → Type 0
HasRuns at db = HasCells run_cells (db.trees (run_at at))

abbrev pub HasMeasurements : Layout → Database → Type 0
HasMeasurements at db = HasCells measurement_cells (db.trees (measurement_at at))

abbrev pub HasLines : Layout → Database → Type 0
HasLines at db = HasCells history_cells (db.trees (history_at at))

abbrev pub HasRevisions : Layout → Database → Type 0
HasRevisions at db = HasCells revision_cells (db.trees (revision_at at))

abbrev pub HasBindings : Layout → Database → Type 0
HasBindings at db = HasCells binding_cells (db.trees (binding_at at))

abbrev pub HasTallies : Layout → Database → Type 0
HasTallies at db = HasCells tally_cells (db.trees (tally_at at))

-- so in the tables of callers, of their requests, of services and of their runs
pub record HasEarlyRows (at : Layout) (db : Database) : Type 0 where
  pub callers : HasCallers at db
  pub kept : HasKept at db
  pub services : HasServices at db
  pub runs : HasRuns at db

-- and in those of measurements, of histories, of revisions, of bindings and of tallies
pub record HasLateRows (at : Layout) (db : Database) : Type 0 where
  pub measurements : HasMeasurements at db
  pub history : HasLines at db
  pub revisions : HasRevisions at db
  pub bindings : HasBindings at db
  pub tallies : HasTallies at db

-- if no cell is missing in tallies
abbrev pub HasTalliesIfWhole : Layout → Database → Type 0
HasTalliesIfWhole at db = HasWholeTallies db → HasTallies at db

abbrev pub HasLateRowsIfWhole : Layout → Database → Type 0
HasLateRowsIfWhole at db = HasWholeTallies db → HasLateRows at db

-- it reports of a database of a desk's schema that this holds
abbrev pub Assures : {Q A : Type 0} → (Layout → Database → Type 0) → (Q → State) → Q → Q
    → Result A ReadFault → Type 0
Assures Holds shows old new result = IsUsable (shows new) → (at : Layout)
    → (shows old).now.schema ≡ schema_at at → OnOk result (Holds at (shows old).now)

-- and that something is broken only if it does not
abbrev pub Denies : {Q A : Type 0} → (Layout → Database → Type 0) → (Q → State) → Q → Q
    → Result A ReadFault → Type 0
Denies Holds shows old new result = IsUsable (shows new) → (at : Layout)
    → (shows old).now.schema ≡ schema_at at → result ≡ Err Broken → ¬ Holds at (shows old).now

-- it reports of a desk's database that all its rows are those of a desk's tables
abbrev pub AssuresAll : {Q A : Type 0} → (Q → State) → Q → Q → Result A ReadFault → Type 0
AssuresAll shows old new result = IsUsable (shows new) → IsFormed (shows old).now
    → HasWholeTallies (shows old).now → OnOk result (HasRows (shows old).now)

-- and that they are broken only if they are not
abbrev pub DeniesAll : {Q A : Type 0} → (Q → State) → Q → Q → Result A ReadFault → Type 0
DeniesAll shows old new result = IsUsable (shows new) → IsFormed (shows old).now
    → result ≡ Err Broken → ¬ HasRows (shows old).now
