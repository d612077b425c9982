-- What stays as it is while a database is read.
use Rattle.std.proofs.Common.{◌≡◌, ℕ, refl, sym, subst, ◌∙◌}
use Rattle.sqlite.specs.State.{State}
use Rattle.sqlite.specs.Effect.{Database}
use Rattle.canary_tables_rows.specs.Tables.{Tables}
use Rattle.canary_tables_schema.specs.Stores.{IsUsable, IsHeld, Stores}
use Rattle.canary_tables_read.specs.Finds.{IsSame}
use Rattle.canary_tables_read.specs.Reader.{IsKept}

pub same_then : (old between new : State) → IsSame old between → IsSame between new → IsSame old new
same_then old between new first second usable = let s = second usable in let f = first s.0 in (f.0, s.1 ∙ f.1)

-- it stores the same rows
pub stores_then : (old new : State) (t : Tables) → IsSame old new → IsUsable new → Stores old t → Stores new t
stores_then old new t same usable has = subst (λ (db : Database). IsHeld db t) (sym (same usable).1) has

pub stores_before : (old new : State) (t : Tables) → IsSame old new → IsUsable new → Stores new t → Stores old t
stores_before old new t same usable has = subst (λ (db : Database). IsHeld db t) (same usable).1 has

-- a reader can still be asked, is the same one, and what was committed stays
abbrev pub Goes : {A : Type 0} → (A → Type 0) → (A → ℕ) → (A → State) → A → A → Type 0
Goes Ready place below first now = Ready now × (place now ≡ place first) × IsKept (below first) (below now)

pub goes_first : {A : Type 0} (Ready : A → Type 0) (place : A → ℕ) (below : A → State) (x : A) → Ready x → Goes Ready place below x x
goes_first Ready place below x ready = (ready, refl, λ usable. (usable, refl))

pub goes_more : {A : Type 0} (Ready : A → Type 0) (place : A → ℕ) (below : A → State) (x y z : A) → Goes Ready place below x y → Ready z → place z ≡ place y → IsKept (below y) (below z) → Goes Ready place below x z
goes_more Ready place below x y z before ready at kept =
    (ready, at ∙ before.1, λ usable. let later = kept usable in let first = before.2 later.0 in (first.0, later.1 ∙ first.1))
