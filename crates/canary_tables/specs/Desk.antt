-- When a database is a desk's, and what it contains.
use Rattle.std.specs.Prelude.{◌≡◌, Bool, false, List, ℕ, filter, Some}
use Rattle.sqlite.specs.Held.{Held, state}
use Rattle.sqlite.specs.State.{State}
use Rattle.sqlite_trees.specs.declared.store.Store.{Ghosts}
use Rattle.canary_once.specs.Contents.{Contents}
use Rattle.canary_once.specs.BookCalls.{BookState}
use Rattle.canary_plan.specs.declared.service.ServiceSpec.{ServiceSpec}
use Rattle.canary_plan.specs.Plans.{strategy_of}
use Rattle.canary_tables_rows.specs.Tables.{is_service}
use Rattle.canary_tables_schema.specs.Cells.{tables_in}
use Rattle.canary_tables_schema.specs.Stores.{IsUsable, Stores}
use Rattle.canary_tables_read.specs.Finds.{IsSame}
use Rattle.canary_tables_contents.specs.Finding.{strategy_by}
use Rattle.canary_tables_contents.specs.Reading.{contents_of, first_row, HoldsContents}
use Rattle.canary_tables.specs.declared.notes.Notes.{Notes}
use Rattle.canary_tables.specs.Notes.{AreTrue}
use Rattle.canary_tables.specs.declared.cache.Cache.{Cache}
use Rattle.canary_tables.specs.Caches.{IsCacheOf}

-- what a database contains, whatever it is
abbrev pub contents_in : State → Contents
contents_in s = contents_of (tables_in s.now)

-- a database stores rows that hold contents
pub record IsDesk (s : State) : Type 0 where
  pub stores : Stores s (tables_in s.now)
  pub holds : HoldsContents (tables_in s.now)

-- a connection outside of a transaction, with a desk's database
pub record HasDesk (in_transaction : Bool) (s : State) : Type 0 where
  pub autocommit : in_transaction ≡ false
  pub desk : IsUsable s → IsDesk s

-- a look leaves the connection outside of a transaction, and its database as it was
pub record Looks (in_transaction : Bool) (old new : State) : Type 0 where
  pub mode : in_transaction ≡ false
  pub same : IsSame old new

-- the service of that name, by its row, has the strategy that was asked for so
abbrev pub IsMadeBy : State → List ℕ → ServiceSpec → Type 0
IsMadeBy s name made =
    strategy_by (first_row (filter (is_service name) (tables_in s.now).services))
    ≡ Some (strategy_of made)

-- a kind of store in which nothing is ever lost or misread, as memory alone
abbrev pub IsMemory : {S : Type 0} → Ghosts S → Type 0
IsMemory {S} g = (h : Held S) → IsUsable (state g h)

-- how a book over a connection stands: its store is honest if the connection is usable
abbrev pub book_state : {S : Type 0} → Ghosts S → Held S → BookState
book_state g h =
    record {
      contents = contents_in (state g h);
      is_honest = IsUsable (state g h);
      is_in_memory = IsMemory g;
      is_sure = false;
    }

-- a book's connection stands outside a transaction, over a desk's database. Its notes hold of that,
-- and what it keeps is what that contains
pub record IsBook {S : Type 0} (g : Ghosts S) (h : Held S) (notes : Notes) (keeps : Cache)
    : Type 0 where
  pub autocommit : h.in_transaction ≡ false
  pub desk : IsUsable (state g h) → IsDesk (state g h)
  pub noted : IsUsable (state g h) → AreTrue (state g h).now notes
  pub kept : IsUsable (state g h) → IsCacheOf keeps (contents_in (state g h))
