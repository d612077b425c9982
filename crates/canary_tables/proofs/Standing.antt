-- What stays as it is while a database is read.
use Rattle.std.proofs.Common.{◌≡◌, ap, sym, subst, ◌∙◌}
use Rattle.sqlite.specs.State.{State}
use Rattle.sqlite.specs.Effect.{Database}
use Rattle.canary_tables_schema.specs.Cells.{tables_in}
use Rattle.canary_tables_schema.specs.Stores.{IsUsable, IsHeld}
use Rattle.canary_tables_contents.specs.Reading.{contents_of, HoldsContents}
use Rattle.canary_tables_read.specs.Finds.{IsSame}
use Rattle.canary_tables.specs.declared.cache.Cache.{Cache}
use Rattle.canary_tables.specs.Caches.{IsCacheOf}
use Rattle.canary_tables.specs.Desk.{IsDesk, contents_in}

-- it stays a desk
pub desk_stays : (old new : State) → (IsUsable old → IsDesk old) → IsSame old new → IsUsable new → IsDesk new
desk_stays old new desk same usable =
    let s = same usable in
    let d = desk s.0 in
    record {
      stores = subst (λ (db : Database). IsHeld db (tables_in db)) (sym s.1) d.stores;
      holds = subst (λ (db : Database). HoldsContents (tables_in db)) (sym s.1) d.holds;
    }

-- it contains the same
pub contents_stay : (old new : State) → IsSame old new → IsUsable new → contents_in new ≡ contents_in old
contents_stay old new same usable = ap (λ (db : Database). contents_of (tables_in db)) (same usable).1

pub same_then : (old between new : State) → IsSame old between → IsSame between new → IsSame old new
same_then old between new first second usable = let s = second usable in let f = first s.0 in (f.0, s.1 ∙ f.1)

-- its rows are the same
pub tables_stay : (old new : State) → IsSame old new → IsUsable new → tables_in new.now ≡ tables_in old.now
tables_stay old new same usable = ap (λ (db : Database). tables_in db) (same usable).1

-- and what is kept of it is what it contains
pub kept_stays : (old new : State) (kept : Cache) → (IsUsable old → IsCacheOf kept (contents_in old)) → IsSame old new → IsUsable new → IsCacheOf kept (contents_in new)
kept_stays old new kept are same usable = subst (IsCacheOf kept) (sym (contents_stay old new same usable)) (are (same usable).0)
