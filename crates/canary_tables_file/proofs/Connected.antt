-- What a connection finds in files that are opened.
use Rattle.std.proofs.Common.{◌≡◌, refl, sym, ap, ap₂, subst, ◌∙◌}
use Rattle.std.specs.Prelude.{IsTrue, Result, IfOk}
use Rattle.std.proofs.lemmas.Result.{IfOk-weaker}
use Rattle.sqlite_disk.specs.declared.Disk.{Ghosts}
use Rattle.sqlite_disk.specs.declared.Files.{Files}
use Rattle.sqlite_wal.specs.Reads.{are_clean, AreClean}
use Rattle.sqlite_pool.specs.Pool.{state, files}
use Rattle.sqlite_pool.specs.declared.pool.Pool.{Pool}
use Rattle.sqlite_store.specs.declared.store.FileStore.{FileStore}
use Rattle.sqlite.specs.State.{HasCleanDisk}
use Rattle.sqlite.specs.Held.{Held}
use Rattle.sqlite.specs.Files.{file_state, image_of, HoldsDatabase, AreFoundIn, Finds}
use Rattle.canary_tables_file.proofs.Found.{image_at}

module _ {D : Type 0} {g : Ghosts D} where
  -- a pool is clean just if its files are
  pub clean_is : (it : Pool D g) → (state it).is_clean ≡ are_clean g (files it).0 (files it).1
  unfolding state files
  clean_is it = refl

  pub clean_files : (it : Pool D g) (log db : D) → files it ≡ (log, db) → AreClean g log db → IsTrue (state it).is_clean
  clean_files it log db same clean = clean_is it ∙ ap (λ p. are_clean g p.0 p.1) same ∙ clean

  pub clean_pool : (it : Pool D g) (log db : D) → files it ≡ (log, db) → IsTrue (state it).is_clean → AreClean g log db
  clean_pool it log db same clean = sym (clean_is it ∙ ap (λ p. are_clean g p.0 p.1) same) ∙ clean

  -- what is found in files that were only read since is found in them as they were
  finds_before : (old new : Files D) → g.seen new.log ≡ g.seen old.log → g.seen new.db ≡ g.seen old.db → (AreClean g new.log new.db → AreClean g old.log old.db)
      → (conn : Held (FileStore D g)) → Finds new conn → Finds old conn
  finds_before old new logs dbs clean conn found =
      let same : image_of g new ≡ image_of g old = ap₂ image_at logs dbs in
      record {
        honest = clean found.honest;
        holds = λ trees held. found.holds trees (subst (λ i. HoldsDatabase i trees) (sym same) held);
        reads = subst (λ i. AreFoundIn i (file_state conn).committed.trees) same found.reads;
      }

  pub all_found_before : {E : Type 0} (old new : Files D) → g.seen new.log ≡ g.seen old.log → g.seen new.db ≡ g.seen old.db → (AreClean g new.log new.db → AreClean g old.log old.db)
      → (r : Result (Held (FileStore D g)) E) → IfOk r (λ c. HasCleanDisk (file_state c) → Finds new c) → IfOk r (λ c. HasCleanDisk (file_state c) → Finds old c)
  all_found_before old new logs dbs clean r found =
      IfOk-weaker r _ _ (λ conn finds held. finds_before old new logs dbs clean conn (finds held)) found
