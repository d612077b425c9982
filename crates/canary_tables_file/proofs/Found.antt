-- What is found in files that are opened.
use Rattle.std.proofs.Common.{◌≡◌, sym, ap, subst, ◌∙◌}
use Rattle.std.specs.Prelude.{ℕ, List, IsTrue, Option, Some, None, Result, Ok, Err, IfOk, IfSome, OnOk}
use Rattle.sqlite_disk.specs.declared.Disk.{Ghosts}
use Rattle.sqlite_wal.specs.Recovery.{Image, Pages}
use Rattle.sqlite_wal.specs.Files.{seen_image}
use Rattle.sqlite_value.specs.Order.{Row}
use Rattle.sqlite_pool.specs.Pool as pool
use Rattle.sqlite_pool.specs.declared.pool.Pool.{Pool}
use Rattle.sqlite_pool.specs.Stored.{Recovers}
use Rattle.sqlite_pool.specs.StoredLaws.{recovers_once}
use Rattle.sqlite_store.specs.declared.store.FileStore.{FileStore}
use Rattle.sqlite_store.specs.declared.store.open.Unopened.{Unopened}
use Rattle.sqlite_store.specs.FileStore.{state, view}
use Rattle.sqlite_store.specs.Unopened.{state_of, image, HasSameFiles, IsCatalogOf, Opens}
use Rattle.sqlite_pool.proofs.ResealLemmas.{adopts_of}
use Rattle.sqlite_store.specs.Listing.{file_trees, IsOurs}
use Rattle.sqlite_store.specs.Saved.{kept_schema}
use Rattle.sqlite_trees.proofs.Doubt.{no_doubt}
use Rattle.sqlite_trees.specs.Tree.{no_trees}
use Rattle.sqlite_store.specs.FileStore.{IsReady}
use Rattle.sqlite.specs.Files.{AreFoundIn}
use Rattle.std.proofs.Common.{inl}
use Rattle.std.proofs.Math.Logic.{∥∥₁_map}
use Rattle.std.proofs.lemmas.Bool.{cond-true}
use Rattle.canary_tables_file.specs.Found.{HasPagesOf, StandsAsBefore, ReadsItsPages, IsOpenedFrom}

abbrev pub image_at : List ℕ → List ℕ → Image
image_at log db = record { log = log; db = db }

on_ok : {A E P : Type 0} (r : Result A E) → P → OnOk r P
on_ok (Ok a) p = p
on_ok (Err e) p = tt

module _ {D : Type 0} {g : Ghosts D} where
  -- reading the catalog changes nothing of what the files stand for
  pub stands : {A E : Type 0} (old mid new : Unopened D g) (rows : List Row) → (IsTrue (state_of mid).is_clean → IsCatalogOf old mid rows) → (IsTrue (state_of mid).is_clean → Opens old (state_of mid)) → HasSameFiles mid new
      → (r : Result A E) → IsTrue (state_of new).is_clean → OnOk r (StandsAsBefore old new)
  stands old mid new rows ok kept same r clean =
      let size : ℕ = (state_of old).page_size in
      let was : IsTrue (state_of mid).is_clean = subst (λ (p : Pool D g). IsTrue (pool.state p).is_clean) same clean in
      let catalog = ok was in
      on_ok r (record {
        size = ap (λ (p : Pool D g). (pool.state p).page_size) same ∙ (kept was).size;
        pages = λ pages found.
            let again : Recovers size (image mid) pages = subst (λ (p : Pool D g). Recovers size (seen_image g (pool.files p).0 (pool.files p).1) pages) same found in
            subst (λ (p : Pages). Recovers size (image old) p) (recovers_once size (image mid) catalog.pages pages catalog.again again) catalog.found;
      })

  pub opened_from : (old : Unopened D g) (store : FileStore D g) → IsTrue (state_of old).is_clean → Opens old (state store) → Recovers (state_of old).page_size (image old) (state store).committed → IsOpenedFrom old store
  opened_from old store clean kept found = record { clean = clean; size = kept.size; pages = found }

  pub all_before : {E : Type 0} (old new : Unopened D g) (r : Result (Option (FileStore D g)) E) → (IsTrue (state_of new).is_clean → StandsAsBefore old new)
      → IfOk r (λ found. IfSome found (λ store. IsTrue (view store).is_clean → IsOpenedFrom new store)) → IfOk r (λ found. IfSome found (λ store. IsTrue (view store).is_clean → HasPagesOf (image old) store))
  all_before old new (Ok (Some store)) before from = λ clean.
      let it = from clean in
      let was = before it.clean in
      let there : Recovers (state_of old).page_size (image new) (state store).committed = subst (λ (n : ℕ). Recovers n (image new) (state store).committed) was.size it.pages in
      subst (λ (n : ℕ). Recovers n (image old) (state store).committed) (sym (it.size ∙ was.size)) (was.pages (state store).committed there)
  all_before old new (Ok None) before from = tt
  all_before old new (Err e) before from = tt

  -- of contents that are the same
  pub all_of : {E : Type 0} (first second : Image) → first ≡ second → (r : Result (Option (FileStore D g)) E)
      → IfOk r (λ found. IfSome found (λ store. IsTrue (view store).is_clean → HasPagesOf first store)) → IfOk r (λ found. IfSome found (λ store. IsTrue (view store).is_clean → HasPagesOf second store))
  all_of first second same r is = subst (λ (i : Image). IfOk r (λ found. IfSome found (λ store. IsTrue (view store).is_clean → HasPagesOf i store))) same is

  -- a store in which nothing is written reads its pages by its schema
  pub reads_pages : (store : FileStore D g) → IsReady store → IsTrue (view store).is_numbered → IsTrue (view store).is_clean → ReadsItsPages store
  reads_pages store ready numbered clean =
      let size = (state store).page_size in
      let wanted = kept_schema store.saved store.schema.items in (
        wanted,
        ∥∥₁_map (store.stored (ready.is_open (no_doubt _ clean))) (λ s. subst (λ b. IsOurs size b wanted (state store).committed) numbered s.ours),
        ready.clean ∙ cond-true _ (file_trees size wanted (state store).committed) no_trees clean,
      )

  -- so they are what these contents read as, if the pages are theirs
  pub all_trees_of : {E : Type 0} (first : Image) (r : Result (Option (FileStore D g)) E) → IfOk r (λ found. IfSome found (λ store. IsTrue (view store).is_clean → HasPagesOf first store))
      → IfOk r (λ found. IfSome found (λ store. IsTrue (view store).is_clean → ReadsItsPages store)) → IfOk r (λ found. IfSome found (λ store. IsTrue (view store).is_clean → AreFoundIn first (view store).trees))
  all_trees_of first (Ok (Some store)) pages reads = λ clean.
      let it = reads clean in
      inl ((state store).page_size, (state store).committed, it.0, adopts_of (state store).page_size first (state store).committed (pages clean), it.1, it.2)
  all_trees_of first (Ok None) pages reads = tt
  all_trees_of first (Err e) pages reads = tt
