-- What the INSERT of a kept request does.
use Rattle.std.proofs.Common.{◌≡◌, ℕ, pos, List, [], ◌∷◌, ◌++◌, codes, slice_get, Some, Ok, Err, Result, OnOk, refl}
use Rattle.sqlite.specs.declared.types.Value.TheVariants.{Null}
use Rattle.sqlite.specs.declared.error.Error.{Error}
use Rattle.sqlite.specs.Term.{lit, col}
use Rattle.sqlite.specs.Table.{Table}
use Rattle.sqlite.specs.Cast.{cast_row}
use Rattle.sqlite.specs.Command.TheVariants.{Insert}
use Rattle.sqlite.specs.Source.TheVariants.{Values}
use Rattle.sqlite.specs.State.{State, ExecutesInside}
use Rattle.sqlite.specs.Listing.{understood}
use Rattle.sqlite.specs.Given.{IsPlain}
use Rattle.sqlite.proofs.Callers.{command_of}
use Rattle.sqlite_tied.specs.Compute.{everything}
use Rattle.canary_tables_rows.specs.declared.rows.KeptRow.{KeptRow}
use Rattle.canary_tables_rows.specs.Tables.{Tables}
use Rattle.canary_tables_rows.specs.Changes.{with_kept}
use Rattle.canary_tables_schema.specs.Layout.{Layout}
use Rattle.canary_tables_schema.specs.Schema.{schema_at, kept}
use Rattle.canary_tables_schema.specs.Cells.{kept_cells}
use Rattle.canary_tables_schema.specs.Stores.{IsReady}
use Rattle.canary_tables_write.proofs.Inserted.{cast_null, cast_whole, inserted}
use Rattle.canary_tables_write.proofs.Spared.{kept_now}

abbrev text : List ℕ
text = codes "INSERT INTO kept (caller, number, command, status, body) VALUES (?1, ?2, ?3, ?4, ?5)"

abbrev table : Layout → Table
table at = record kept { tree = 3 }

is_insert : (at : Layout) → command_of (understood (schema_at at) text) ≡ Insert 2 (Values (lit Null ∷ col 0 0 ∷ col 0 1 ∷ col 0 2 ∷ col 0 3 ∷ col 0 4 ∷ []) 6)
unfolding understood everything
is_insert at = refl

is_plain : (at : Layout) → IsPlain (understood (schema_at at) text)
unfolding understood everything
is_plain at = (refl, refl)

stands : (at : Layout) → slice_get (schema_at at).tables 2 ≡ Some (table at)
unfolding everything
stands at = refl

kept_as_given : (at : Layout) (row : KeptRow) → cast_row (table at) (Null ∷ kept_cells row) ≡ Null ∷ kept_cells row
kept_as_given at row = rw (cast_null, cast_whole (pos row.number), cast_whole (pos row.status)) refl

pub kept_inserted : (old new : State) (t : Tables) (row : KeptRow) (r : Result ℕ Error) → IsReady old t → ExecutesInside 0 text (kept_cells row) old new r → OnOk r (IsReady new (with_kept (row) t))
kept_inserted old new t row (Err e) ready h = tt
kept_inserted old new t row (Ok count) ready h =
    let at = ready.stores.layout in
    let has = ready.stores.holds in
    kept_now at old new t has (t.kept ++ row ∷ [])
    (inserted at text 2 _ 6 (table at) (kept_cells row) (is_insert at) (is_plain at) (stands at) kept_cells row refl (kept_as_given at row) old new count has.schema h t.kept has.numbered.1.1.0 has.kept refl)
