-- What a statement leaves is a database.
use Rattle.std.proofs.Common.{◌≡◌, ℕ, List, Bool, true, false, Ok, Err, Result, OnOk, IsTrue, refl}
use Rattle.sqlite.specs.Order.{Row}
use Rattle.sqlite.specs.Term.{Term}
use Rattle.sqlite.specs.Command.TheVariants.{Insert}
use Rattle.sqlite.specs.Source.TheVariants.{Values}
use Rattle.sqlite.specs.Effect.{IsDatabase}
use Rattle.sqlite.specs.State.{State, ExecutesInside}
use Rattle.sqlite.specs.Listing.{understood}
use Rattle.sqlite.specs.Given.{IsPlain}
use Rattle.sqlite.proofs.Callers.{command_of, runs_as}
use Rattle.canary_tables_schema.specs.Layout.{Layout}
use Rattle.canary_tables_schema.specs.Schema.{schema_at}

pub sound_after : (at : Layout) (text : List ℕ) (place : ℕ) (terms : List Term) (width : ℕ) (params : Row) → command_of (understood (schema_at at) text) ≡ Insert place (Values terms width) → IsPlain (understood (schema_at at) text)
    → (old new : State) (count : ℕ) → old.now.schema ≡ schema_at at → ExecutesInside 0 text params old new (Ok count) → IsDatabase new.now
sound_after at text place terms width params is plain old new count schema h = (runs_as text params old new (schema_at at) schema (Insert place (Values terms width)) is plain count h.0).sound

-- a statement that succeeds was inside a transaction
pub began : {A E : Type 0} {Rest : Type 0} (e : E) (inside : Bool) (r : Result A E) → (inside ≡ false → (r ≡ Err e) × Rest) → OnOk r (IsTrue inside)
began e inside (Err x) ended = tt
began e true (Ok a) ended = refl
began e false (Ok a) ended = absurd (let it = (ended refl).0 in cc)
