-- Books of files that are opened.
use Rattle.std.proofs.Common.{◌≡◌, ◌^◌, ◌<◌, [], length, refl, sym, ap, subst, ◌∙◌, inl, inr, arith}
use Rattle.std.proofs.lemmas.Bool.{cases_Bool, cond-false}
use Rattle.std.proofs.lemmas.Result.{IfOk-weaker}
use Rattle.std.specs.Prelude.{Option, Some, None, Result, Ok, Err, IsTrue, IfOk, IfSome}
use Rattle.sqlite_catalog.specs.Listing.{IsSound}
use Rattle.sqlite_disk.specs.declared.Disk.{Ghosts}
use Rattle.sqlite_store.specs.FileStore.{view}
use Rattle.sqlite_store.specs.declared.store.FileStore.{FileStore}
use Rattle.sqlite_trees.specs.Tree.{Trees, no_trees}
use Rattle.sqlite_wal.specs.Recovery.{Image}
use Rattle.sqlite.specs.Files.{file_state, AreFoundIn, IsEmpty, IsOpened}
use Rattle.sqlite.specs.Held.{Held}
use Rattle.sqlite.specs.Start.{FindsIn}
use Rattle.sqlite.specs.State.{State, HasCleanDisk, IsLive, Opens}
use Rattle.canary_once.specs.Contents.{no_contents}
use Rattle.canary_tables_file.specs.Found.{HaveNoDatabase}
use Rattle.canary_tables_schema.specs.Cells.{meta_rows}
use Rattle.canary_tables_schema.specs.Schema.{no_schema}
use Rattle.canary_tables_schema.specs.Stores.{IsUsable}
use Rattle.canary_tables.specs.Adopts.{IsMadeOf, IsSoundDesk}
use Rattle.canary_tables.specs.Desk.{contents_in}
use Rattle.canary_tables.specs.Opened.{IsOpenedAt}

-- a desk has a row in meta
meta_of : (s : State) → IsSoundDesk s → s.now.trees 0 ≡ meta_rows
meta_of s it = it.rows.1.0.holds.meta

-- Empty files have no desk.

abbrev empty : Image
empty = record { log = []; db = [] }

unlisted : (s : State) → IsSoundDesk s → s.now.trees 0 ≡ [] → ⊥
unlisted s sound none = omega (arith, ap length none, ap length (meta_of s sound))

nothing_yet : (s : State) → IsSoundDesk s → IsOpenedAt empty s → contents_in s ≡ no_contents
nothing_yet s sound (trees, at, inl same) = absurd (unlisted s sound (ap (λ (t : Trees). t 0) same ∙ (at.made (inl refl)).0 0 (omega arith)))
nothing_yet s sound (trees, at, inr none) = none.1

-- From the connection that a file is opened with.

opened_at : (first : Image) (conn book : State) → Opens conn → IsLive conn → (¬ HaveNoDatabase first → FindsIn first conn) → (HaveNoDatabase first → IsEmpty conn.committed.trees)
    → IsMadeOf conn book → IsOpenedAt first book
opened_at first conn book opens live found made (inl begun) = (
  conn.committed.trees,
  record { found = λ some. (found some).reads; made = made },
  inr (subst (λ schema. IsSound schema conn.committed.trees) (sym (ap (λ db. db.schema) opens.clean) ∙ begun.empty) (live opens.is_open).1, begun.nothing),
)
opened_at first conn book opens live found made (inr adopted) = (
  conn.committed.trees,
  record { found = λ some. (found some).reads; made = made },
  inl (ap (λ db. db.trees) (adopted.same ∙ opens.clean)),
)

was_usable : (conn book : State) → IsMadeOf conn book → IsUsable conn
was_usable conn book (inl begun) = begun.was
was_usable conn book (inr adopted) = adopted.was

module _ {D : Type 0} {g : Ghosts D} where
  -- a store that has a row in meta is clean: one that is not shows no rows
  clean_store : (store : FileStore D g) → (view store).trees 0 ≡ meta_rows → IsTrue (view store).is_clean
  clean_store store meta = elim (cases_Bool (view store).is_clean) [
    | inl clean ↦ clean
    | inr dirty ↦ absurd (let none : (view store).trees ≡ no_trees = cond-false _ _ no_trees dirty in omega (arith, ap (λ (trees : Trees). length (trees 0)) none, ap length meta))
  ]

  -- a desk that was opened over a store has the trees of the store's file
  pub desk_found : {E : Type 0} (store : FileStore D g) (first : Image) → (IsTrue (view store).is_clean → AreFoundIn first (view store).trees)
      → (r : Result (Option (Held (FileStore D g))) E) → IfOk r (λ found. IfSome found (λ book. IsUsable (file_state book) → (file_state book).now.trees ≡ (view store).trees))
      → IfOk r (λ found. IfSome found (λ book. IsUsable (file_state book) → IsSoundDesk (file_state book)))
      → IfOk r (λ found. IfSome found (λ book. IsUsable (file_state book) → AreFoundIn first (file_state book).now.trees))
  desk_found store first found (Ok (Some book)) trees sound = λ usable.
      let same = trees usable in
      let meta : (view store).trees 0 ≡ meta_rows = ap (λ (t : Trees). t 0) (sym same) ∙ meta_of (file_state book) (sound usable) in
      subst (AreFoundIn first) (sym same) (found (clean_store store meta))
  desk_found store first found (Ok None) trees sound = tt
  desk_found store first found (Err e) trees sound = tt

  -- a book of a connection has the database that was found
  pub file_found : {E : Type 0} (conn : Held (FileStore D g)) (first : Image) → (HasCleanDisk (file_state conn) → IsOpened conn) → (HasCleanDisk (file_state conn) → ¬ HaveNoDatabase first → FindsIn first (file_state conn))
      → (HasCleanDisk (file_state conn) → HaveNoDatabase first → IsEmpty (file_state conn).committed.trees)
      → (r : Result (Held (FileStore D g)) E) → IfOk r (λ book. IsUsable (file_state book) → IsMadeOf (file_state conn) (file_state book))
      → IfOk r (λ book. IsUsable (file_state book) → IsOpenedAt first (file_state book))
  file_found conn first opened found made r of =
      IfOk-weaker r _ _ (λ book is usable.
      let it = is usable in
      let clean = (was_usable (file_state conn) (file_state book) it).clean in
      opened_at first (file_state conn) (file_state book) (opened clean).0 (opened clean).1 (found clean) (made clean) it) of

  -- the book of an empty file contains nothing
  pub all_nothing : {E : Type 0} (r : Result (Held (FileStore D g)) E) → IfOk r (λ book. IsUsable (file_state book) → IsOpenedAt empty (file_state book)) → IfOk r (λ book. IsUsable (file_state book) → IsSoundDesk (file_state book))
      → IfOk r (λ book. IsUsable (file_state book) → contents_in (file_state book) ≡ no_contents)
  all_nothing (Ok book) found sound = λ usable. nothing_yet (file_state book) (sound usable) (found usable)
  all_nothing (Err e) found sound = tt
