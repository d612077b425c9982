-- When a database has the desk's tables, whatever stands in their rows.
use Rattle.std.specs.Prelude.{◌≡◌, ℕ, length}
use Rattle.std.specs.List.{AllByRecursion}
use Rattle.sqlite.specs.Tree.{Trees}
use Rattle.sqlite.specs.Schema.{Schema}
use Rattle.sqlite.specs.Effect.{Database}
use Rattle.canary_tables_rows.specs.Tables.{Tables}
use Rattle.canary_tables_schema.specs.Layout.{Layout}
use Rattle.canary_tables_schema.specs.Schema.{schema_at}
use Rattle.canary_tables_schema.specs.Cells.{meta_rows, tally_tree}
use Rattle.canary_tables_schema.specs.Stores.{AreNumbered, IsNumbered, IsHeld}

-- the schema of a desk, in one of the layouts
abbrev pub IsDeskSchema : Schema → Type 0
IsDeskSchema schema = (at : Layout) × (schema ≡ schema_at at)

-- if the database is a desk's, the rowids of each table rise
abbrev pub IsRising : Database → Type 0
IsRising db = (at : Layout) → db.schema ≡ schema_at at → AreNumbered at db.trees

-- the rowids of each table of the schema, whichever it is, are whole numbers and rise
abbrev pub HasRisingTables : Database → Type 0
HasRisingTables db = AllByRecursion (λ t. IsNumbered (db.trees t.tree)) db.schema.tables

-- the ten tables are there, the rowids of each rise, and meta has its one row
pub record IsFormed (db : Database) : Type 0 where
  pub layout : Layout
  pub schema : db.schema ≡ schema_at layout
  pub numbered : AreNumbered layout db.trees
  pub meta : db.trees 0 ≡ meta_rows

-- the rows of tables stand in it, whichever they are
abbrev pub HasRows : Database → Type 0
HasRows db = (t : Tables) × IsHeld db t

-- each row of the tree has as many cells as one of tally: the rowid and ten more
abbrev pub AreWhole : ℕ → Trees → Type 0
AreWhole tree trees = AllByRecursion (λ row. length row ≡ 11) (trees tree)

-- each row of tallies, whose last column may be NULL, has a value for each column. A row that was
-- written before a column was added is shorter, and a query shows NULL for what it lacks.
abbrev pub HasWholeTallies : Database → Type 0
HasWholeTallies db = AreWhole (tally_tree db.schema) db.trees
