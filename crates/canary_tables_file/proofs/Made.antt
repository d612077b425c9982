-- Files in which an empty database was made.
use Rattle.std.proofs.Common.{◌≡◌, ◌^◌, ◌<◌, ℕ, true, List, [], ◌∷◌, length, IsTrue, refl, sym, ap, subst, subst₂, ◌∙◌, arith}
use Rattle.std.proofs.Math.Logic.{∥∥₁_elim, ∥∥₁_map}
use Rattle.sqlite_disk.specs.declared.Disk.{Ghosts}
use Rattle.sqlite_pool.proofs.ResealLemmas.{adopts_of}
use Rattle.sqlite_pool.proofs.StateLemmas.{settled, seen_may_be_left}
use Rattle.sqlite_pool.specs.File.{version_in, in_use}
use Rattle.sqlite_pool.specs.Pool.{files}
use Rattle.sqlite_pool.specs.Stored.{stored_size, Recovers}
use Rattle.sqlite_store.proofs.ListingLemmas.{past_version, named_tree}
use Rattle.sqlite_store.specs.Db.{trees_in}
use Rattle.sqlite_store.specs.FileStore.{state, view, IsReady}
use Rattle.sqlite_store.specs.Listed.{catalog_rows}
use Rattle.sqlite_store.specs.Listing.{all_trees, file_trees, IsOurs}
use Rattle.sqlite_store.specs.Saved.{kept_schema}
use Rattle.sqlite_store.specs.declared.store.FileStore.{FileStore}
use Rattle.sqlite_trees.proofs.Doubt.{no_doubt}
use Rattle.sqlite_trees.specs.Objects.{catalog_tree}
use Rattle.sqlite_trees.specs.Tree.{Trees}
use Rattle.sqlite_wal.proofs.LogLemmas.{SeenMayStay}
use Rattle.sqlite_wal.specs.Files.{seen_image}
use Rattle.sqlite_wal.specs.PageSize.{IsPageSize}
use Rattle.sqlite_wal.specs.Recovery.{Image, Pages}
use Rattle.sqlite.proofs.ListingLemmas.{empty_is_sound}
use Rattle.sqlite.specs.Files.{HoldsDatabase, IsEmpty}
use Rattle.sqlite.specs.Opening.{HoldsIn}
use Rattle.canary_tables_file.specs.Found.{HoldNothing}

-- pages whose schema lists nothing are an empty database
empty_pages : (size : ℕ) (image : Image) (pages : Pages) → Recovers size image pages → IsOurs size true [] pages → (db : Trees) × HoldsIn size image db × IsEmpty db
unfolding trees_in
empty_pages size image pages found ours =
    let db = file_trees size [] pages in
    let unlisted = catalog_rows size [] (in_use size pages) in (
      db,
      record { pages = pages; wanted = []; schema = _; found = adopts_of size image pages found; ours = ours; reads = refl; sound = empty_is_sound db unlisted },
      (λ tree low. past_version tree low (all_trees size [] (in_use size pages)) (version_in pages) ∙ named_tree tree low size [] (in_use size pages), unlisted),
    )

module _ {D : Type 0} {g : Ghosts D} where
  -- the files of a store with such pages that lists nothing, and in which nothing is written, are one
  pub holds_nothing : SeenMayStay g → (store : FileStore D g) (log db : D) → (log, db) ≡ files store.pool → IsReady store → IsTrue (view store).is_numbered → (state store).page_size ≡ 512 → store.schema.items ≡ [] → IsTrue (state store).is_clean
      → ∥ HoldNothing (seen_image g log db) ∥₁
  holds_nothing stays store log db same ready numbered small none clean =
      let size = (state store).page_size in
      let pages = (state store).committed in
      let is_open = ready.is_open (no_doubt _ clean) in
      let image = seen_image g (files store.pool).0 (files store.pool).1 in
      let found = (settled store.pool stays is_open).durable image (seen_may_be_left store.pool stays clean) in
      let listing : kept_schema store.saved store.schema.items ≡ [] = ap (λ o. kept_schema o store.schema.items) ready.unaltered ∙ none in
      subst (λ p. ∥ HoldNothing (seen_image g p.0 p.1) ∥₁) (sym same)
      (∥∥₁_map (store.stored is_open) (λ s. subst (λ (n : ℕ). (trees : Trees) × HoldsIn n image trees × IsEmpty trees) small
      (empty_pages size image pages found (subst₂ (λ b x. IsOurs size b x pages) numbered listing s.ours))))

-- nothing is found in them then
nothing_at : {A : Type 0} (xs : List A) → ∥ xs ≡ [] ∥₁ → xs ≡ []
nothing_at [] e = refl
nothing_at (x ∷ xs) e = absurd (∥∥₁_elim e (λ a b. absurd a) (λ same. omega (arith, ap length same)))

-- pages of 512 bytes are valid
valid_size : IsPageSize (stored_size 512)
valid_size = (omega arith, omega arith, refl, refl)

pub finds_nothing : (image : Image) (trees : Trees) → ((db : Trees) → HoldsDatabase image db → trees ≡ db) → ∥ HoldNothing image ∥₁ → IsEmpty trees
finds_nothing image trees holds nothing =
    let is = ∥∥₁_map nothing (λ it. subst IsEmpty (sym (holds it.0 (512, valid_size, it.1))) it.2) in
    (λ tree low. nothing_at (trees tree) (∥∥₁_map is (λ e. e.0 tree low)), nothing_at (trees catalog_tree) (∥∥₁_map is (λ e. e.1)))
