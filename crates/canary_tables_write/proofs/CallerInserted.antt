-- What the INSERT of a caller does.
use Rattle.std.proofs.Common.{◌≡◌, ℕ, pos, List, [], ◌∷◌, ◌++◌, codes, slice_get, Some, Ok, Err, Result, OnOk, refl}
use Rattle.sqlite.specs.declared.types.Value.TheVariants.{Null, Int, Text as Words}
use Rattle.sqlite.specs.declared.error.Error.{Error}
use Rattle.sqlite.specs.Term.{lit, col}
use Rattle.sqlite.specs.Table.{Table}
use Rattle.sqlite.specs.Cast.{cast_row}
use Rattle.sqlite.specs.Command.TheVariants.{Insert}
use Rattle.sqlite.specs.Source.TheVariants.{Values}
use Rattle.sqlite.specs.State.{State, ExecutesInside}
use Rattle.sqlite.specs.Listing.{understood}
use Rattle.sqlite.specs.Given.{IsPlain}
use Rattle.sqlite.proofs.Callers.{command_of}
use Rattle.sqlite_tied.specs.Compute.{everything}
use Rattle.canary_tables_rows.specs.declared.rows.CallerRow.{CallerRow}
use Rattle.canary_tables_rows.specs.Tables.{Tables}
use Rattle.canary_tables_rows.specs.Changes.{with_caller}
use Rattle.canary_tables_schema.specs.Layout.{Layout}
use Rattle.canary_tables_schema.specs.Schema.{schema_at, caller}
use Rattle.canary_tables_schema.specs.Cells.{caller_cells}
use Rattle.canary_tables_schema.specs.Stores.{IsReady}
use Rattle.canary_tables_write.proofs.Inserted.{cast_null, cast_whole, inserted}
use Rattle.canary_tables_write.proofs.Spared.{callers_now}

abbrev text : List ℕ
text = codes "INSERT INTO caller (name, settled) VALUES (?1, 1)"

abbrev table : Layout → Table
table at = record caller { tree = 1 }

is_insert : (at : Layout) → command_of (understood (schema_at at) text) ≡ Insert 1 (Values (lit Null ∷ col 0 0 ∷ lit (Int (pos 1)) ∷ []) 3)
unfolding understood everything
is_insert at = refl

is_plain : (at : Layout) → IsPlain (understood (schema_at at) text)
unfolding understood everything
is_plain at = (refl, refl)

stands : (at : Layout) → slice_get (schema_at at).tables 1 ≡ Some (table at)
unfolding everything
stands at = refl

kept_as_given : (at : Layout) (row : CallerRow) → cast_row (table at) (Null ∷ caller_cells row) ≡ Null ∷ caller_cells row
kept_as_given at row = rw (cast_null, cast_whole (pos row.settled)) refl

pub caller_inserted : (old new : State) (t : Tables) (name : List ℕ) (r : Result ℕ Error) → IsReady old t → ExecutesInside 0 text (Words name ∷ []) old new r → OnOk r (IsReady new (with_caller (record { name = name; settled = 1 }) t))
caller_inserted old new t name (Err e) ready h = tt
caller_inserted old new t name (Ok count) ready h =
    let row : CallerRow = record { name = name; settled = 1 } in
    let at = ready.stores.layout in
    let has = ready.stores.holds in
    callers_now at old new t has (t.callers ++ row ∷ [])
    (inserted at text 1 _ 3 (table at) (Words name ∷ []) (is_insert at) (is_plain at) (stands at) caller_cells row refl (kept_as_given at row) old new count has.schema h t.callers has.numbered.1.0 has.callers refl)
