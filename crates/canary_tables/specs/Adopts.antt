-- What adopting a database, and opening one, comes to.
use Rattle.std.specs.Prelude.{◌≡◌, ◌⊎◌, false}
use Rattle.sqlite.specs.Effect.{Database}
use Rattle.sqlite.specs.Held.{state}
use Rattle.sqlite.specs.State.{State}
use Rattle.sqlite_trees.specs.declared.store.Store.{Ghosts}
use Rattle.canary_once.specs.Contents.{no_contents}
use Rattle.canary_once.specs.Sound.{AreSoundContents}
use Rattle.canary_tables_rows.specs.Limits.{AreWithin}
use Rattle.canary_tables_rows.specs.Tables.{Tables}
use Rattle.canary_tables_schema.specs.declared.fault.StoreFault.{StoreFault}
use Rattle.canary_tables_schema.specs.Formed.{IsDeskSchema, IsFormed}
use Rattle.canary_tables_schema.specs.Numbered.{IsLeft}
use Rattle.canary_tables_schema.specs.Schema.{no_schema}
use Rattle.canary_tables_schema.specs.Stores.{IsUsable, IsHeld}
use Rattle.canary_tables_contents.specs.Soundness.{AreSoundTables}
use Rattle.canary_tables_read.specs.Meta.{HasMetaRow}
use Rattle.canary_tables.specs.declared.fault.Unadopted.{Unadopted}
use Rattle.canary_tables.specs.declared.fault.Unadopted.TheVariants as left
use Rattle.canary_tables.specs.declared.fault.TableFault.{TableFault}
use Rattle.canary_tables.specs.Desk.{contents_in}
use Rattle.canary_tables.specs.Faults.{fault_of_store}

-- just a desk's tables and indexes are there, and the row of its schema stands in meta
abbrev pub HasDeskTables : Database → Type 0
HasDeskTables db = IsDeskSchema db.schema × HasMetaRow 2 (db.trees 0)

-- the rows of tables of sound contents stand in it
abbrev pub HasSoundRows : Database → Type 0
HasSoundRows db = (t : Tables) × (IsHeld db t × AreSoundTables t)

-- and a program can hold each of them
abbrev pub HasSoundRowsWithin : Database → Type 0
HasSoundRowsWithin db = (t : Tables) × (IsHeld db t × (AreWithin t × AreSoundTables t))

-- it is a desk's database, whose rows are those of sound contents
pub record IsBelieved (db : Database) : Type 0 where
  pub formed : IsFormed db
  pub rows : Tables
  pub held : IsHeld db rows
  pub sound : AreSoundTables rows

-- the database is a desk's with sound contents, which the book contains; nothing has changed
pub record IsAdopted (old new : State) : Type 0 where
  pub was : IsUsable old
  pub formed : IsFormed old.now
  pub sound : HasSoundRows old.now
  pub contents : contents_in new ≡ contents_in old
  pub same : new.now ≡ old.now

-- What opening a database comes to.

-- the rows of tables of sound contents stand in it, and what they say is contained, and sound
pub record IsSoundDesk (s : State) : Type 0 where
  pub rows : HasSoundRows s.now
  pub contents : AreSoundContents (contents_in s)

-- the database was empty, and the book contains nothing
pub record IsBegun (old new : State) : Type 0 where
  pub was : IsUsable old
  pub empty : old.now.schema ≡ no_schema
  pub nothing : contents_in new ≡ no_contents

-- an empty database becomes a desk's, any other is adopted
abbrev pub IsMadeOf : State → State → Type 0
IsMadeOf old new = IsBegun old new ⊎ IsAdopted old new

-- What is left if there is no book.

-- a connection shows what its tables are; a store alone is not asked
abbrev pub TellsTables : {S : Type 0} → Ghosts S → Unadopted S → Type 0
TellsTables g (left.Connection conn) = IsUsable (state g conn)
TellsTables g (left.Store store) = Unit {0}

-- the database is as it was; so are all trees of a store alone, which is clean and open
abbrev pub LeavesRows : {S : Type 0} → Ghosts S → State → Unadopted S → Type 0
LeavesRows g old (left.Connection conn) =
    IsUsable (state g conn) → IsUsable old × ((state g conn).now ≡ old.now)
LeavesRows g old (left.Store store) = IsLeft old (g.view store)

-- a store alone is left only if memory or the store failed
abbrev pub IsLeftBy : {S : Type 0} → TableFault → Unadopted S → Type 0
IsLeftBy f (left.Connection conn) = Unit {0}
IsLeftBy f (left.Store store) = (cause : StoreFault) × (f ≡ fault_of_store cause)

-- a connection stands outside a transaction; a store alone has none
abbrev pub IsOutside : {S : Type 0} → Unadopted S → Type 0
IsOutside (left.Connection conn) = conn.in_transaction ≡ false
IsOutside (left.Store store) = Unit {0}
