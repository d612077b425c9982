-- What is found in files that are opened.
use Rattle.std.specs.Prelude.{◌≡◌, List, true, IsTrue}
use Rattle.sqlite.specs.Files.{IsEmpty}
use Rattle.sqlite.specs.Opening.{HoldsIn}
use Rattle.sqlite_disk.specs.declared.Disk.{Ghosts}
use Rattle.sqlite_wal.specs.Recovery.{Image, Pages}
use Rattle.sqlite_wal.specs.Files.{seen_image}
use Rattle.sqlite_pool.specs.Stored.{Recovers}
use Rattle.sqlite_pool.specs.Opening.{IsBlankFile}
use Rattle.sqlite_store.specs.declared.store.FileStore.{FileStore}
use Rattle.sqlite_store.specs.declared.store.open.Unopened.{Unopened}
use Rattle.sqlite_store.specs.FileStore.{state, view}
use Rattle.sqlite_store.specs.Listing.{file_trees, IsOurs}
use Rattle.sqlite_store.specs.declared.catalog.Wanted.{Wanted}
use Rattle.sqlite_store.specs.Unopened.{state_of, image}
use Rattle.sqlite_trees.specs.Tree.{Trees}

-- There is no database: the database file is empty, whatever its log holds, or is what was left of
-- a first page of 512 bytes that was not made to its end.
abbrev pub HaveNoDatabase : Image → Type 0
HaveNoDatabase = IsBlankFile 512

-- they are a database with nothing in it, of pages of 512 bytes
abbrev pub HoldNothing : Image → Type 0
HoldNothing image = (db : Trees) × HoldsIn 512 image db × IsEmpty db

module _ {D : Type 0} {g : Ghosts D} where
  -- the store's pages are those that these contents of a log and a database file stand for
  abbrev pub HasPagesOf : Image → FileStore D g → Type 0
  HasPagesOf first store = Recovers (state store).page_size first (state store).committed

  -- the same of what is seen of a log and a database file
  abbrev pub HasPagesSeen : D → D → FileStore D g → Type 0
  HasPagesSeen log db store = HasPagesOf (seen_image g log db) store

  -- the store's trees are what its pages read as, by the schema that they list
  abbrev pub ReadsItsPages : FileStore D g → Type 0
  ReadsItsPages store =
      let size = (state store).page_size in
      let pages = (state store).committed in
      (wanted : List Wanted) × ∥ IsOurs size true wanted pages ∥₁
      × ((view store).trees ≡ file_trees size wanted pages)

  -- what the files stand for now, they stood for before
  pub record StandsAsBefore (old new : Unopened D g) : Type 0 where
    pub size : (state_of new).page_size ≡ (state_of old).page_size
    pub pages : (p : Pages) → Recovers (state_of old).page_size (image new) p
        → Recovers (state_of old).page_size (image old) p

  -- the store's pages are those that the files stood for
  pub record IsOpenedFrom (old : Unopened D g) (store : FileStore D g) : Type 0 where
    pub clean : IsTrue (state_of old).is_clean
    pub size : (state store).page_size ≡ (state_of old).page_size
    pub pages : Recovers (state_of old).page_size (image old) (state store).committed
