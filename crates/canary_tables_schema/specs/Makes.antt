-- What CREATE TABLE and CREATE INDEX do to a desk that is being made.
use Rattle.std.specs.Prelude.{◌≡◌, ℕ, List, [], if◌then◌else◌, IsTrue, Result, Ok, Some, OnOk, slice_get}
use Rattle.std.specs.List.{AllByRecursion}
use Rattle.sqlite.specs.Command.TheVariants.{CreateTable, CreateIndex}
use Rattle.sqlite.specs.Schema.{Schema}
use Rattle.sqlite.specs.Table.{Table}
use Rattle.sqlite.specs.Change.{created, indexed}
use Rattle.sqlite.specs.Compile.{table_defined_by}
use Rattle.sqlite_resolve.specs.Compile.{index_defined_by}
use Rattle.sqlite_schema.specs.declared.schema.Index.{Index}
use Rattle.sqlite.specs.Does.{lacks_sequence}
use Rattle.sqlite.specs.State.{State, HasCleanDisk}
use Rattle.sqlite.specs.Listing.{understood}
use Rattle.sqlite.specs.Given.{IsPlain}
use Rattle.sqlite.specs.declared.error.Error.{Error}
use Rattle.sqlite.proofs.Callers.{command_of, statement_of}
use Rattle.canary_tables_rows.specs.Tables.{no_tables}
use Rattle.canary_tables_schema.specs.Layout.{made}
use Rattle.canary_tables_schema.specs.Schema.{sequence, schema_at}
use Rattle.canary_tables_schema.specs.Stores.{IsReady}

-- with the table, and the table of counts if it is the first that counts
abbrev pub made_with : Schema → Table → Schema
made_with schema table =
    if lacks_sequence (created schema table) then created (created schema table) sequence
    else created schema table

-- under the schema the text makes this table
pub record IsTableText (schema : Schema) (text : List ℕ) (next : Schema) : Type 0 where
  pub table : Table
  pub command : command_of (understood schema text) ≡ CreateTable
  pub whole : statement_of text (understood schema text) ≡ text
  pub plain : IsPlain (understood schema text)
  pub defined : table_defined_by text ≡ Ok table
  pub next_is : next ≡ made_with schema table

-- under the schema the text makes this index
pub record IsIndexText (schema : Schema) (text : List ℕ) (next : Schema) : Type 0 where
  pub at : ℕ
  pub table : Table
  pub index : Index
  pub command : command_of (understood schema text) ≡ CreateIndex at
  pub whole : statement_of text (understood schema text) ≡ text
  pub plain : IsPlain (understood schema text)
  pub there : slice_get schema.tables at ≡ Some table
  pub defined : index_defined_by table text ≡ Ok index
  pub next_is : next ≡ indexed schema table index

-- inside a transaction the tables so far are there, and empty
pub record IsAt (schema : Schema) (s : State) : Type 0 where
  pub live : IsTrue s.in_transaction
  pub schema_is : s.now.schema ≡ schema
  pub empty : AllByRecursion (λ t. s.now.trees t.tree ≡ []) schema.tables

-- What a statement inside a transaction does.

-- empty tables become more, or get an index
abbrev pub Grows : {A : Type 0} → Schema → Schema → State → State → Result A Error → Type 0
Grows schema next old new result = HasCleanDisk new → IsAt schema old → OnOk result (IsAt next new)

-- the empty tables become a desk's, with the row of meta and no other
abbrev pub IsFilled : {A : Type 0} → State → State → Result A Error → Type 0
IsFilled old new result =
    HasCleanDisk new → IsAt (schema_at made) old → OnOk result (IsReady new no_tables)
