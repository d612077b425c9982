-- What was committed is what the transaction held.
use Rattle.std.proofs.Common.{◌≡◌, Ok, Err, Result, OnOk, sym, subst}
use Rattle.sqlite.specs.declared.error.Error.{Error}
use Rattle.sqlite.specs.Effect.{Database}
use Rattle.canary_tables_rows.specs.Tables.{Tables}
use Rattle.canary_tables_schema.specs.Stores.{IsHeld}

pub committed : {A : Type 0} (mid new : Database) (t : Tables) (r : Result A Error) → IsHeld mid t → OnOk r (new ≡ mid) → OnOk r (IsHeld new t)
committed mid new t (Err e) held same = tt
committed mid new t (Ok u) held same = subst (λ (db : Database). IsHeld db t) (sym same) held
