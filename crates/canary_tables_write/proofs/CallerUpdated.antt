-- What the UPDATE of a caller does.
use Rattle.std.proofs.Common.{◌≡◌, ℕ, ℤ, pos, List, [], ◌∷◌, codes, slice_get, Some, Ok, Err, Result, OnOk, refl, ◌∙◌}
use Rattle.sqlite.specs.declared.types.Value.{Value}
use Rattle.sqlite.specs.declared.types.Value.TheVariants.{Int, Text as Words}
use Rattle.sqlite.specs.declared.error.Error.{Error}
use Rattle.sqlite.specs.Term.{Term, col, op2}
use Rattle.sqlite.specs.Table.{Table}
use Rattle.sqlite.specs.Cast.{cast_row}
use Rattle.sqlite.specs.Command.TheVariants.{Update}
use Rattle.sqlite.specs.State.{State, ExecutesInside}
use Rattle.sqlite.specs.Listing.{understood}
use Rattle.sqlite.specs.Given.{IsPlain}
use Rattle.sqlite.proofs.Callers.{command_of}
use Rattle.sqlite_sql.specs.declared.ops.BinaryOp.TheVariants.{Compare}
use Rattle.sqlite_sql.specs.declared.ops.CompareOp.TheVariants.{Eq}
use Rattle.sqlite_value.specs.declared.keys.Collation.TheVariants.{Binary}
use Rattle.sqlite_tied.specs.Compute.{everything}
use Rattle.canary_tables_rows.specs.declared.rows.CallerRow.{CallerRow}
use Rattle.canary_tables_rows.specs.Tables.{Tables, is_caller}
use Rattle.canary_tables_rows.specs.Changes.{HasCaller, change_where, with_settled}
use Rattle.canary_tables_schema.specs.Layout.{Layout}
use Rattle.canary_tables_schema.specs.Schema.{schema_at, caller}
use Rattle.canary_tables_schema.specs.Cells.{caller_cells}
use Rattle.canary_tables_schema.specs.Stores.{IsReady}
use Rattle.canary_tables_write.proofs.Spared.{callers_now}
use Rattle.canary_tables_write.proofs.UpdateAnswer.{plain_query, passes}
use Rattle.canary_tables_write.proofs.Inserted.{cast_whole}
use Rattle.canary_tables_write.proofs.UpdateDesk.{updated}
use Rattle.canary_tables_write.proofs.UpdateTests.{and_true, equal_words}

abbrev text : List ℕ
text = codes "UPDATE caller SET settled = ?2 WHERE name = ?1"

abbrev tests : List Term
tests = op2 (Compare Eq Binary) (col 1 1) (col 0 0) ∷ []

abbrev shown : List Term
shown = col 1 0 ∷ col 1 0 ∷ col 1 1 ∷ col 0 1 ∷ []

abbrev table : Layout → Table
table at = record caller { tree = 1 }

is_update : (at : Layout) → command_of (understood (schema_at at) text) ≡ Update 1 (record { lets = []; body = plain_query 1 tests shown [] })
unfolding understood everything
is_update at = refl

is_plain : (at : Layout) → IsPlain (understood (schema_at at) text)
unfolding understood everything
is_plain at = (refl, refl)

stands : (at : Layout) → slice_get (schema_at at).tables 1 ≡ Some (table at)
unfolding everything
stands at = refl

abbrev change : ℕ → CallerRow → CallerRow
change settled row = record row { settled = settled }

fits : (name : List ℕ) (settled : ℕ) (v : Value) (row : CallerRow) → passes tests (Words name ∷ Int (pos settled) ∷ []) (v ∷ caller_cells row) ≡ is_caller name row
fits name settled v row = and_true _ ∙ equal_words row.name name

as_given : (at : Layout) (row : CallerRow) (n : ℤ) → cast_row (table at) (Int n ∷ caller_cells row) ≡ Int n ∷ caller_cells row
as_given at row n = rw (cast_whole n, cast_whole (pos row.settled)) refl

pub caller_updated : (old new : State) (t : Tables) (name : List ℕ) (settled : ℕ) (r : Result ℕ Error) → IsReady old t → HasCaller name t → ExecutesInside 0 text (Words name ∷ Int (pos settled) ∷ []) old new r → OnOk r (IsReady new (with_settled name settled t))
caller_updated old new t name settled (Err e) ready one h = tt
caller_updated old new t name settled (Ok count) ready one h =
    let at = ready.stores.layout in
    let has = ready.stores.holds in
    callers_now at old new t has (change_where (is_caller name) (change settled) t.callers)
    (updated at text 1 tests shown (table at) (Words name ∷ Int (pos settled) ∷ []) (is_update at) (is_plain at) (stands at) old new count has.schema h caller_cells (is_caller name) (change settled) (fits name settled) t.callers one.0 (λ n. refl) (as_given at (change settled one.0)) has.numbered.1.0 has.callers one.1)
