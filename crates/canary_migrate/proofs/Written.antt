-- What is written, and that what was committed stays.
use Rattle.std.proofs.Common.{◌≡◌, ◌⊎◌, inl, inr, [], ◌∷◌, ◌++◌, List, map, Bool, true, false, IsTrue, Ok, Err, Result, OnOk, refl, sym, ap, subst, ◌∙◌, arith}
use Rattle.sqlite.specs.Order.{Row}
use Rattle.sqlite.specs.Held.{Held, state}
use Rattle.sqlite.specs.State.{State, HasCleanDisk, Survives, KeepsCommit}
use Rattle.sqlite.specs.Effect.{Database}
use Rattle.sqlite_trees.specs.declared.store.Store.{Ghosts}
use Rattle.canary_tables_rows.specs.declared.rows.BindingRow.{BindingRow}
use Rattle.canary_tables_rows.specs.declared.rows.RevisionRow.{RevisionRow}
use Rattle.canary_tables_rows.specs.declared.rows.TallyRow.{TallyRow}
use Rattle.canary_tables_rows.specs.Tables.{Tables}
use Rattle.canary_tables_schema.specs.Cells.{cells_of, meta_rows}
use Rattle.canary_tables_schema.specs.Layout.{moved}
use Rattle.canary_tables_schema.specs.Stores.{IsNumbered, Holds, IsHeld, IsReady, IsUsable, StaysCommitted}
use Rattle.canary_tables_write.specs.Fills.{IsNumberedAnew, HasOneId}
use Rattle.canary_tables_read.specs.Reader.{IsKept}

either_way : (b : Bool) → (b ≡ true) ⊎ (b ≡ false)
either_way true = inl refl
either_way false = inr refl

-- what was committed stays, whether or not the transaction goes on
pub kept_once : {S : Type 0} (g : Ghosts S) (old new : Held S) → StaysCommitted (state g old) (state g new) → ((state g old).in_transaction ≡ false → new ≡ old) → Survives (state g old) (state g new) (λ _. ⊥) → IsKept (state g old) (state g new)
kept_once {S = S} g old new kept ended survives usable = by_cases (either_way (state g old).in_transaction)
  where
    by_cases : ((state g old).in_transaction ≡ true) ⊎ ((state g old).in_transaction ≡ false) → IsUsable (state g old) × ((state g new).committed ≡ (state g old).committed)
    by_cases (inl live) =
        let k = kept usable.clean live in
        (record { clean = omega (arith, survives.clean, usable.clean); is_open = k.was_open usable.is_open }, k.committed usable.is_open)
    by_cases (inr over) = let is = ended over in (subst (λ (h : Held S). IsUsable (state g h)) is usable, ap (λ (h : Held S). (state g h).committed) is)

pub kept_live : (old new : State) → StaysCommitted old new → (IsUsable new → IsTrue old.in_transaction) → Survives old new (λ _. ⊥) → IsKept old new
kept_live old new kept live survives usable =
    let k = kept usable.clean (live usable) in
    (record { clean = omega (arith, survives.clean, usable.clean); is_open = k.was_open usable.is_open }, k.committed usable.is_open)

pub kept_both : (a b c : State) → IsKept a b → IsKept b c → IsKept a c
kept_both a b c h k usable = let later = k usable in let before = h later.0 in (before.0, later.1 ∙ before.1)

-- the row of meta is written once more

meta_id : HasOneId meta_rows
meta_id = refl

pub has_id : (db : Database) (t : Tables) → Holds moved db t → HasOneId (db.trees 0)
has_id db t h = subst HasOneId (sym h.meta) meta_id

same : {old new : List Row} → new ≡ old → IsNumbered old → IsNumbered new
same e h = subst IsNumbered (sym e) h

pub still_held : (old new : State) (t : Tables) → Holds moved old.now t → IsNumberedAnew old new → Holds moved new.now t
still_held old new t h set =
    let k = set.kept in
    let n = h.numbered in
    record {
      schema = set.schema;
      numbered = (same (set.meta ∙ sym h.meta) n.0, (same k.0 n.1.0, (same k.1.0 n.1.1.0, (same k.1.1.0 n.1.1.1.0, (same k.1.1.1.0 n.1.1.1.1.0, (same k.1.1.1.1.0 n.1.1.1.1.1.0, (same k.1.1.1.1.1.0 n.1.1.1.1.1.1.0, (same k.1.1.1.1.1.1.0 n.1.1.1.1.1.1.1.0, (same k.1.1.1.1.1.1.1.0 n.1.1.1.1.1.1.1.1.0, (same k.1.1.1.1.1.1.1.1.0 n.1.1.1.1.1.1.1.1.1.0, tt))))))))));
      meta = set.meta;
      callers = ap cells_of k.0 ∙ h.callers;
      kept = ap cells_of k.1.0 ∙ h.kept;
      services = ap cells_of k.1.1.0 ∙ h.services;
      runs = ap cells_of k.1.1.1.0 ∙ h.runs;
      measurements = ap cells_of k.1.1.1.1.0 ∙ h.measurements;
      history = ap cells_of k.1.1.1.1.1.0 ∙ h.history;
      revisions = ap cells_of k.1.1.1.1.1.1.0 ∙ h.revisions;
      bindings = ap cells_of k.1.1.1.1.1.1.1.0 ∙ h.bindings;
      tallies = ap cells_of k.1.1.1.1.1.1.1.1.0 ∙ h.tallies;
    }

pub ready_again : (old new : State) (t : Tables) → Holds moved old.now t → IsNumberedAnew old new → IsReady new t
ready_again old new t h set = record { live = set.live; stores = record { layout = moved; holds = still_held old new t h set } }
