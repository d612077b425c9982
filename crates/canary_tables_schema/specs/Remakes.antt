-- How the first schema becomes the desk's, in the layout `moved`, inside a transaction.
use Rattle.std.specs.Prelude.{◌≡◌, ◌==◌, ℕ, Bool, true, false, List, [], ◌∷◌, ◌++◌, codes, IsTrue, Result, Ok, Some, OnOk, slice_get}
use Rattle.std.specs.List.{AllByRecursion, list_any, list_all}
use Rattle.sqlite.specs.Command.TheVariants.{CreateTable, CreateIndex, DropTable, DropIndex}
use Rattle.sqlite.specs.Schema.{Schema}
use Rattle.sqlite.specs.Table.{Table}
use Rattle.sqlite_schema.specs.declared.schema.Index.{Index}
use Rattle.sqlite_schema.specs.declared.schema.Keys.TheVariants.{Enforced}
use Rattle.sqlite_catalog.specs.Change.{created, indexed, without_table, without_index, next_tree}
use Rattle.sqlite.specs.Compile.{table_defined_by}
use Rattle.sqlite_resolve.specs.Compile.{index_defined_by}
use Rattle.sqlite.specs.Does.{lacks_sequence, is_acted_on}
use Rattle.sqlite.specs.State.{State, HasCleanDisk}
use Rattle.sqlite.specs.Tree.{Trees}
use Rattle.sqlite.specs.Listing.{understood}
use Rattle.sqlite.specs.Given.{IsPlain}
use Rattle.sqlite.specs.declared.error.Error.{Error}
use Rattle.sqlite.proofs.Callers.{command_of, statement_of}
use Rattle.canary_tables_schema.specs.First.{first_schema}
use Rattle.canary_tables_schema.specs.Schema.{by, run, measurement, revision, binding, tally}

-- The schema as the statements change it, one after another.

abbrev pub without_lines : Schema
without_lines = without_index first_schema 19

abbrev pub without_measurements : Schema
without_measurements = without_index without_lines 18

-- no index is left but those of the keys
abbrev pub first_unindexed : Schema
first_unindexed = without_index without_measurements 17

abbrev pub without_template : Schema
without_template = without_table first_unindexed 5

abbrev pub without_tally : Schema
without_tally = without_table without_template 11

abbrev pub moved_with_revision : Schema
moved_with_revision = created without_tally revision

abbrev pub moved_with_binding : Schema
moved_with_binding = created moved_with_revision binding

-- the ten tables
abbrev pub moved_tables : Schema
moved_tables = created moved_with_binding tally

abbrev pub moved_runs_indexed : Schema
moved_runs_indexed =
    indexed moved_tables (record run { tree = 9 }) (by (codes "run_closed") 9 (1 ∷ 5 ∷ []))

abbrev pub moved_measurements_indexed : Schema
moved_measurements_indexed =
    indexed moved_runs_indexed (record (measurement false) { tree = 13 })
    (by (codes "measurement_service") 13 (2 ∷ []))

-- meta, caller, kept, service, run, measurement, SQLite's own table of counts and history keep
-- their trees
abbrev pub old_trees : List ℕ
old_trees = 0 ∷ 1 ∷ 3 ∷ 7 ∷ 9 ∷ 13 ∷ 15 ∷ 16 ∷ []

-- revision, binding and tally
abbrev pub new_trees : List ℕ
new_trees = 17 ∷ 19 ∷ 21 ∷ []

-- What a statement does.

-- each of these is the tree of a table
abbrev pub are_among : List ℕ → List Table → Bool
are_among trees tables = list_all (λ k. list_any (λ (t : Table). t.tree == k) tables) trees

abbrev pub AreKept : List ℕ → Trees → Trees → Type 0
AreKept trees old new = AllByRecursion (λ k. new k ≡ old k) trees

abbrev pub AreEmpty : List ℕ → Trees → Type 0
AreEmpty trees db = AllByRecursion (λ k. db k ≡ []) trees

-- the database is of this schema now; these trees are as they were, and these are empty
pub record IsRemade (next : Schema) (kept empty : List ℕ) (old new : State) : Type 0 where
  pub live : IsTrue new.in_transaction
  pub schema : new.now.schema ≡ next
  pub stays : AreKept kept old.now.trees new.now.trees
  pub none : AreEmpty empty new.now.trees

-- inside a transaction over a database of the schema it makes one of the next
abbrev pub Remakes : {A : Type 0} → Schema → Schema → List ℕ → List ℕ → State → State
    → Result A Error → Type 0
Remakes schema next kept empty old new result =
    HasCleanDisk new → IsTrue old.in_transaction → old.now.schema ≡ schema
    → OnOk result (IsRemade next kept empty old new)

-- under the schema the text drops a table, and leaves the next schema, which has these trees
pub record DropsTable (schema : Schema) (text : List ℕ) (next : Schema)
    (kept : List ℕ) : Type 0 where
  pub at : ℕ
  pub table : Table
  pub command : command_of (understood schema text) ≡ DropTable at
  pub plain : IsPlain (understood schema text)
  pub there : slice_get schema.tables at ≡ Some table
  pub uncounted : table.is_counted ≡ false
  pub idle : is_acted_on schema Enforced table ≡ false
  pub next_is : without_table schema table.tree ≡ next
  pub among : are_among kept next.tables ≡ true

-- the same of an index
pub record DropsIndex (schema : Schema) (text : List ℕ) (next : Schema)
    (kept : List ℕ) : Type 0 where
  pub at : ℕ
  pub index : Index
  pub command : command_of (understood schema text) ≡ DropIndex at
  pub plain : IsPlain (understood schema text)
  pub there : slice_get schema.indexes at ≡ Some index
  pub next_is : without_index schema index.tree ≡ next
  pub among : are_among kept next.tables ≡ true

-- under the schema, which has these trees, the text makes a table with that tree
pub record AddsTable (schema : Schema) (text : List ℕ) (next : Schema) (kept : List ℕ)
    (tree : ℕ) : Type 0 where
  pub table : Table
  pub command : command_of (understood schema text) ≡ CreateTable
  pub whole : statement_of text (understood schema text) ≡ text
  pub plain : IsPlain (understood schema text)
  pub defined : table_defined_by text ≡ Ok table
  pub counted : lacks_sequence (created schema table) ≡ false
  pub next_is : created schema table ≡ next
  pub tree_is : next_tree schema ≡ tree
  pub among : are_among kept schema.tables ≡ true

-- under the schema, which has these trees, the text makes an index
pub record AddsIndex (schema : Schema) (text : List ℕ) (next : Schema)
    (kept : List ℕ) : Type 0 where
  pub at : ℕ
  pub table : Table
  pub index : Index
  pub command : command_of (understood schema text) ≡ CreateIndex at
  pub whole : statement_of text (understood schema text) ≡ text
  pub plain : IsPlain (understood schema text)
  pub there : slice_get schema.tables at ≡ Some table
  pub defined : index_defined_by table text ≡ Ok index
  pub next_is : indexed schema table index ≡ next
  pub among : are_among kept schema.tables ≡ true
