-- What a book over tables is, without a definition of canary_tables.
use Rattle.std.specs.Prelude.{◌≡◌, ◌⊎◌, IsTrue, false, [], ◌∷◌, map, Contains}
use Rattle.sqlite.specs.Effect.{Database}
use Rattle.sqlite.specs.Held.{Held, state}
use Rattle.sqlite.specs.State.{State, HasCleanDisk}
use Rattle.sqlite_trees.specs.declared.store.Store.{Ghosts}
use Rattle.canary_once.specs.BookCalls.{BookState, IsHonestMemory}
use Rattle.canary_once.specs.Contents.{Contents, no_contents}
use Rattle.canary_once.specs.Sound.{AreContents}
use Rattle.canary_tables_rows.specs.Limits.{AreWithin}
use Rattle.canary_tables_rows.specs.Tables.{Tables}
use Rattle.canary_tables_schema.specs.Cells.{tables_in, integer}
use Rattle.canary_tables_schema.specs.First.{meta_shown}
use Rattle.canary_tables_schema.specs.Formed.{IsDeskSchema}
use Rattle.canary_tables_schema.specs.Numbered.{IsLeft}
use Rattle.canary_tables_schema.specs.Schema.{no_schema}
use Rattle.canary_tables_schema.specs.Stores.{IsHeld}
use Rattle.canary_tables_contents.specs.Reading.{contents_of}
use Rattle.canary_tables_contents.specs.Tables.{AreRows, IsReadable}
use Rattle.canary_tables_contents.specs.Soundness.{AreSoundTables}
use Rattle.canary_tables.specs.declared.fault.Unadopted.{Unadopted}
use Rattle.canary_tables.specs.declared.fault.Unadopted.TheVariants as left
use Rattle.canary_tables.specs.declared.fault.TableFault.{TableFault}
use Rattle.canary_tables.specs.declared.fault.TableFault.TheVariants as fault

-- the connection is open, and its disk did not fail
abbrev pub IsIntact : State → Type 0
IsIntact s = HasCleanDisk s × IsTrue s.is_open

-- what the rows of its tables say
abbrev pub rows_say : State → Contents
rows_say s = contents_of (tables_in s.now)

-- the book over a connection is honest exactly if that is live, is in memory exactly if each
-- connection to such a store is live, and contains what the rows say
pub record IsOfItsRows {S : Type 0} (g : Ghosts S) (h : Held S) (b : BookState) : Type 0 where
  pub honest : IsIntact (state g h) → b.is_honest
  pub intact : b.is_honest → IsIntact (state g h)
  pub in_memory : ((k : Held S) → IsIntact (state g k)) → b.is_in_memory
  pub memory : b.is_in_memory → (k : Held S) → IsIntact (state g k)
  pub contents : b.contents ≡ rows_say (state g h)

-- so each book over such a store
abbrev pub AreOfTheirRows : {S : Type 0} → Ghosts S → (Held S → BookState) → Type 0
AreOfTheirRows {S} g state_of = (h : Held S) → IsOfItsRows g h (state_of h)

-- however such a book came about, its store is honest, and memory alone
abbrev pub AreHonestMemory : {B : Type 0} → (B → BookState) → Type 0
AreHonestMemory {B} state_of = (b : B) → IsHonestMemory (state_of b)

-- the database is a desk's, and holds just the rows of what the book contains, those of tallies and
-- of bindings with them; all of it is read back from them
pub record HasItsTables (s : State) (b : BookState) : Type 0 where
  pub stores : IsHeld s.now (tables_in s.now)
  pub rows : AreRows (tables_in s.now) b.contents
  pub readable : IsReadable b.contents
  pub lawful : AreContents b.contents

-- a book that was made of an empty database: it is honest, and contains nothing
pub record ContainsNothing (old new : State) (b : BookState) : Type 0 where
  pub empty : old.now.schema ≡ no_schema
  pub honest : IsIntact new → b.is_honest
  pub nothing : IsIntact new → b.contents ≡ no_contents

-- rows of sound contents stand in the database
abbrev pub HasSound : Database → Type 0
HasSound db = (t : Tables) × (IsHeld db t × AreSoundTables t)

-- a book that took a database over: it is honest, and contains what the rows said, which are those
-- of sound contents; nothing has changed
pub record ContainsWhatWas (old new : State) (b : BookState) : Type 0 where
  pub honest : IsIntact new → b.is_honest
  pub contents : IsIntact new → b.contents ≡ rows_say old
  pub sound : IsIntact new → HasSound old.now
  pub same : IsIntact new → new.now ≡ old.now

-- What a refused database is not.

-- a connection shows what its tables are; a store alone is not asked
abbrev pub ShowsTables : {S : Type 0} → Ghosts S → Unadopted S → Type 0
ShowsTables g (left.Connection conn) = IsIntact (state g conn)
ShowsTables g (left.Store store) = Unit {0}

-- just a desk's tables and indexes are there, and meta shows a row 1, 2, among others or alone
abbrev pub IsDeskWithMeta : Database → Type 0
IsDeskWithMeta db =
    IsDeskSchema db.schema × Contains (map meta_shown (db.trees 0)) (integer 1 ∷ integer 2 ∷ [])

-- rows of sound contents stand in it, each of which a program can hold
abbrev pub HoldsSoundRows : Database → Type 0
HoldsSoundRows db = (t : Tables) × (IsHeld db t × (AreWithin t × AreSoundTables t))

-- What is left of a connection if a database is refused.

-- the database is as it was: a connection shows that, and of a store alone its trees
abbrev pub IsAsItWas : {S : Type 0} → Ghosts S → State → Unadopted S → Type 0
IsAsItWas g old (left.Connection conn) =
    IsIntact (state g conn) → IsIntact old × ((state g conn).now ≡ old.now)
IsAsItWas g old (left.Store store) = IsLeft old (g.view store)

-- no more than a store is left only if memory was refused or the store failed
abbrev pub MayLoseConnection : {S : Type 0} → TableFault → Unadopted S → Type 0
MayLoseConnection f (left.Connection conn) = Unit {0}
MayLoseConnection f (left.Store store) = (f ≡ fault.Memory) ⊎ (f ≡ fault.Storage)

-- a connection that is left stands in no transaction
abbrev pub StandsInNone : {S : Type 0} → Unadopted S → Type 0
StandsInNone (left.Connection conn) = conn.in_transaction ≡ false
StandsInNone (left.Store store) = Unit {0}
