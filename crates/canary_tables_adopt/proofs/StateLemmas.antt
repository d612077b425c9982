-- What stays as it is while a database is read.
use Rattle.std.proofs.Common.{sym, subst, ◌∙◌}
use Rattle.sqlite.specs.State.{State}
use Rattle.sqlite.specs.Effect.{Database}
use Rattle.canary_tables_rows.specs.Tables.{Tables}
use Rattle.canary_tables_schema.specs.Stores.{IsUsable, IsHeld, Stores}
use Rattle.canary_tables_read.specs.Finds.{IsSame}

-- the tables stay
pub stay : (old new : State) (t : Tables) → IsSame old new → IsUsable new → Stores old t → Stores new t
stay old new t same usable stores = subst (λ (db : Database). IsHeld db t) (sym (same usable).1) stores

pub same_then : (old between new : State) → IsSame old between → IsSame between new → IsSame old new
same_then old between new first second usable = let s = second usable in let f = first s.0 in (f.0, s.1 ∙ f.1)
