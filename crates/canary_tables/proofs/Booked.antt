-- What the calls of a book over a connection come to.
use Rattle.std.proofs.Common.{◌≡◌, ◌≤◌, false, Result, Ok, Err, refl, sym, ap, subst}
use Rattle.std.specs.Prelude.{IfOk, IfErr}
use Rattle.sqlite.specs.Held.{Held, state}
use Rattle.sqlite.specs.Effect.{Database}
use Rattle.sqlite_trees.specs.declared.store.Store.{Ghosts}
use Rattle.canary_once.specs.declared.book.BookFault.{BookFault}
use Rattle.canary_once.specs.declared.book.BookFault.TheVariants.{Memory, Storage}
use Rattle.canary_once.specs.declared.book.Settlement.{Settlement}
use Rattle.canary_once.specs.Contents.{Contents, IsSettling, KeepsReceipts, with_settlement}
use Rattle.canary_once.specs.Sound.{AreContents, AreSoundContents}
use Rattle.canary_once.specs.BookCalls.{IsFault, Finds, Commits}
use Rattle.canary_once.specs.Laws.{SettlementsKeep}
use Rattle.canary_tables_schema.specs.Cells.{tables_in}
use Rattle.canary_tables_schema.specs.Stores.{IsHeld, IsUsable}
use Rattle.canary_tables_contents.specs.Reading.{contents_of, HoldsContents}
use Rattle.canary_tables_read.specs.Finds.{IsSame}
use Rattle.canary_tables.specs.declared.notes.Notes.{Notes}
use Rattle.canary_tables.specs.declared.cache.Cache.{Cache}
use Rattle.canary_tables.specs.Caches.{IsCacheOf}
use Rattle.canary_tables.specs.Desk.{contents_in, IsDesk, IsBook, book_state}
use Rattle.canary_tables.specs.Notes.{AreTrue, no_notes}
use Rattle.canary_tables.proofs.Noted.{none_noted}

-- a book over a disk may answer any fault
any_fault : (fault : BookFault) → IsFault false fault
any_fault Memory = tt
any_fault Storage = tt

pub a_fault : {A : Type 0} (r : Result A BookFault) → IfErr r (IsFault false)
a_fault (Ok a) = tt
a_fault (Err fault) = any_fault fault

module _ {S : Type 0} (g : Ghosts S) where
  contents_stay : (old new : Held S) → (state g new).now ≡ (state g old).now → contents_in (state g new) ≡ contents_in (state g old)
  contents_stay old new same = ap (λ (db : Database). contents_of (tables_in db)) same

  desk_stays : (old new : Held S) → (state g new).now ≡ (state g old).now → IsDesk (state g old) → IsDesk (state g new)
  desk_stays old new same desk = record {
    stores = subst (λ (db : Database). IsHeld db (tables_in db)) (sym same) desk.stores;
    holds = subst (λ (db : Database). HoldsContents (tables_in db)) (sym same) desk.holds;
  }

  -- what was noted stays true
  pub noted_still : (old new : Held S) (notes : Notes) (kept : Cache) → IsBook g old notes kept → IsSame (state g old) (state g new) → IsUsable (state g new) → AreTrue (state g new).now notes
  noted_still old new notes kept book same usable = subst (λ (db : Database). AreTrue db notes) (sym (same usable).1) (book.noted (same usable).0)

  -- and what was kept is what it contains
  pub kept_still : (old new : Held S) (notes : Notes) (kept : Cache) → IsBook g old notes kept → IsSame (state g old) (state g new) → IsUsable (state g new) → IsCacheOf kept (contents_in (state g new))
  kept_still old new notes kept book same usable = subst (IsCacheOf kept) (sym (contents_stay old new (same usable).1)) (book.kept (same usable).0)

  -- a read leaves a book
  pub still_book : (old new : Held S) (notes : Notes) (kept : Cache) → IsBook g old notes kept → new.in_transaction ≡ false → IsSame (state g old) (state g new) → IsBook g new notes kept
  still_book old new notes kept book mode same = record {
    autocommit = mode;
    desk = λ usable. desk_stays old new (same usable).1 (book.desk (same usable).0);
    noted = noted_still old new notes kept book same;
    kept = kept_still old new notes kept book same;
  }

  -- also if it keeps more, or less
  pub book_keeps : (old new : Held S) (notes : Notes) (before after : Cache) → IsBook g old notes before → new.in_transaction ≡ false → IsSame (state g old) (state g new) → (IsUsable (state g new) → IsCacheOf after (contents_in (state g new))) → IsBook g new notes after
  book_keeps old new notes before after book mode same kept = record {
    autocommit = mode;
    desk = λ usable. desk_stays old new (same usable).1 (book.desk (same usable).0);
    noted = noted_still old new notes before book same;
    kept = kept;
  }

  -- and finds what the contents have
  pub finds : {A : Type 0} (value : Contents → A) (old new : Held S) (notes : Notes) (kept : Cache) (r : Result A BookFault) → IsBook g old notes kept → IsSame (state g old) (state g new)
      → (IsUsable (state g new) → IfOk r (λ x. x ≡ value (contents_in (state g old)))) → Finds value (book_state g old) (book_state g new) r
  finds value old new notes kept r book same found = record {
    honest = λ usable. (same usable).0;
    in_memory = λ h. (h.0, h.0 new);
    lawful = λ usable. (book.desk (same usable).0).holds.lawful;
    same = λ usable. contents_stay old new (same usable).1;
    value_of_old = found;
    sure = refl;
    fault = a_fault r;
  }

  -- a request that is settled
  pub settled_so : SettlementsKeep → (s : Settlement) (old new : Held S) (notes : Notes) (kept : Cache) → s.number ≤ 1000000000 → IsBook g old notes kept → (IsUsable (state g old) → IsSettling (contents_in (state g old)) s)
      → (IsUsable (state g new) → IsUsable (state g old)) → (IsUsable (state g new) → IsDesk (state g new)) → (IsUsable (state g new) → contents_in (state g new) ≡ with_settlement (contents_in (state g old)) s)
      → Commits s (book_state g old) (book_state g new) (Ok tt)
  settled_so law s old new notes kept few book settling held desk settled =
      let keeps = λ (usable : IsUsable (state g new)). law (contents_in (state g old)) s few (settling (held usable)) (book.desk (held usable)).holds.lawful in
      record {
        honest = held;
        in_memory = λ h. (h.0, h.0 new);
        lawful = λ usable. (desk usable).holds.lawful;
        sound = λ usable sound. subst AreSoundContents (sym (settled usable)) ((keeps usable).sound sound);
        ok = settled;
        err = λ _. tt;
        receipts = λ usable. subst (KeepsReceipts (contents_in (state g old))) (sym (settled usable)) (keeps usable).receipts;
        sure = refl;
        fault = tt;
      }

  -- and one that is not
  pub failed_so : (s : Settlement) (old new : Held S) (notes : Notes) (kept : Cache) (fault : BookFault) → IsBook g old notes kept → (IsUsable (state g new) → IsUsable (state g old)) → (IsUsable (state g new) → (state g new).now ≡ (state g old).now)
      → Commits s (book_state g old) (book_state g new) (Err fault)
  failed_so s old new notes kept fault book held same =
      let stay = λ (usable : IsUsable (state g new)). contents_stay old new (same usable) in
      record {
        honest = held;
        in_memory = λ h. (h.0, h.0 new);
        lawful = λ usable. subst AreContents (sym (stay usable)) (book.desk (held usable)).holds.lawful;
        sound = λ usable sound. subst AreSoundContents (sym (stay usable)) sound;
        ok = λ _. tt;
        err = stay;
        receipts = λ usable. subst (KeepsReceipts (contents_in (state g old))) (sym (stay usable)) (λ caller number receipt there. there);
        sure = refl;
        fault = any_fault fault;
      }

  -- what was not settled leaves a book that has noted nothing
  pub failed_book : (old new : Held S) (before after : Notes) (kept keeps : Cache) → after ≡ no_notes → IsBook g old before kept → new.in_transaction ≡ false → (IsUsable (state g new) → IsUsable (state g old)) → (IsUsable (state g new) → (state g new).now ≡ (state g old).now)
      → (IsUsable (state g new) → IsCacheOf keeps (contents_in (state g new))) → IsBook g new after keeps
  failed_book old new before after kept keeps none book mode held same are =
      record { autocommit = mode; desk = λ usable. desk_stays old new (same usable) (book.desk (held usable)); noted = λ usable. none_noted (state g new).now after none; kept = are }

  pub settled_book : (new : Held S) (after : Notes) (keeps : Cache) → after ≡ no_notes → new.in_transaction ≡ false → (IsUsable (state g new) → IsDesk (state g new)) → (IsUsable (state g new) → IsCacheOf keeps (contents_in (state g new))) → IsBook g new after keeps
  settled_book new after keeps none mode desk are = record { autocommit = mode; desk = desk; noted = λ usable. none_noted (state g new).now after none; kept = are }
