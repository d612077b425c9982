-- What the UPDATE of a service does.
use Rattle.std.proofs.Common.{◌≡◌, ℕ, ℤ, pos, List, [], ◌∷◌, codes, slice_get, Some, Ok, Err, Result, OnOk, refl, ◌∙◌}
use Rattle.sqlite.specs.declared.types.Value.{Value}
use Rattle.sqlite.specs.declared.types.Value.TheVariants.{Int, Text as Words}
use Rattle.sqlite.specs.declared.error.Error.{Error}
use Rattle.sqlite.specs.Order.{Row}
use Rattle.sqlite.specs.Term.{Term, col, op2}
use Rattle.sqlite.specs.Table.{Table}
use Rattle.sqlite.specs.Cast.{cast_row}
use Rattle.sqlite.specs.Command.TheVariants.{Update}
use Rattle.sqlite.specs.State.{State, ExecutesInside}
use Rattle.sqlite.specs.Listing.{understood}
use Rattle.sqlite.specs.Given.{IsPlain}
use Rattle.sqlite.proofs.Callers.{command_of}
use Rattle.sqlite_sql.specs.declared.ops.BinaryOp.TheVariants.{Compare}
use Rattle.sqlite_sql.specs.declared.ops.CompareOp.TheVariants.{Eq}
use Rattle.sqlite_value.specs.declared.keys.Collation.TheVariants.{Binary}
use Rattle.sqlite_tied.specs.Compute.{everything}
use Rattle.canary_tables_rows.specs.declared.rows.ServiceColumns.{ServiceColumns}
use Rattle.canary_tables_rows.specs.declared.rows.ServiceRow.{ServiceRow}
use Rattle.canary_tables_rows.specs.Tables.{Tables, is_service}
use Rattle.canary_tables_rows.specs.Changes.{HasService, change_where, with_standing}
use Rattle.canary_tables_schema.specs.Layout.{Layout, made, moved, packed, service_at}
use Rattle.canary_tables_schema.specs.Schema.{schema_at, service}
use Rattle.canary_tables_schema.specs.Cells.{integer, service_cells}
use Rattle.canary_tables_schema.specs.Stores.{IsReady}
use Rattle.canary_tables_write.proofs.Spared.{services_now}
use Rattle.canary_tables_write.proofs.UpdateAnswer.{plain_query, passes}
use Rattle.canary_tables_write.proofs.Inserted.{cast_whole}
use Rattle.canary_tables_write.proofs.UpdateDesk.{updated}
use Rattle.canary_tables_write.proofs.UpdateTests.{and_true, equal_words}

abbrev text : List ℕ
text = codes "UPDATE service SET stable = ?2, version = ?3, state = ?4, step = ?5, entered = ?6, hold = ?7, background = ?8, runs = ?9, last = ?10 WHERE name = ?1"

abbrev tests : List Term
tests = op2 (Compare Eq Binary) (col 1 1) (col 0 0) ∷ []

abbrev shown : List Term
shown = col 1 0 ∷ col 1 0 ∷ col 1 1 ∷ col 1 2 ∷ col 0 1 ∷ col 0 2 ∷ col 0 3 ∷ col 0 4 ∷ col 0 5 ∷ col 0 6 ∷ col 0 7 ∷ col 0 8 ∷ col 0 9 ∷ []

abbrev table : Layout → Table
table at = record service { tree = service_at at }

is_update : (at : Layout) → command_of (understood (schema_at at) text) ≡ Update 3 (record { lets = []; body = plain_query (service_at at) tests shown [] })
unfolding understood everything
is_update made = refl
is_update moved = refl
is_update packed = refl

is_plain : (at : Layout) → IsPlain (understood (schema_at at) text)
unfolding understood everything
is_plain made = (refl, refl)
is_plain moved = (refl, refl)
is_plain packed = (refl, refl)

stands : (at : Layout) → slice_get (schema_at at).tables 3 ≡ Some (table at)
unfolding everything
stands at = refl

abbrev change : ServiceColumns → ServiceRow → ServiceRow
change standing row = record row { standing = standing }

-- what the statement is given
abbrev pub standing_given : List ℕ → ServiceColumns → Row
standing_given name s =
    Words name ∷ Words s.stable ∷ Words s.version ∷ integer s.state ∷ integer s.step ∷ integer s.entered ∷ integer s.hold ∷ integer s.background ∷ integer s.runs ∷ integer s.last ∷ []

fits : (name : List ℕ) (s : ServiceColumns) (v : Value) (row : ServiceRow) → passes tests (standing_given name s) (v ∷ service_cells row) ≡ is_service name row
fits name s v row = and_true _ ∙ equal_words row.name name

as_given : (at : Layout) (row : ServiceRow) (n : ℤ) → cast_row (table at) (Int n ∷ service_cells row) ≡ Int n ∷ service_cells row
as_given at row n =
    let s = row.standing in
    rw (cast_whole n, cast_whole (pos s.state), cast_whole (pos s.step), cast_whole (pos s.entered), cast_whole (pos s.hold), cast_whole (pos s.background), cast_whole (pos s.runs), cast_whole (pos s.last)) refl

pub service_updated : (old new : State) (t : Tables) (name : List ℕ) (s : ServiceColumns) (r : Result ℕ Error) → IsReady old t → HasService name t → ExecutesInside 0 text (standing_given name s) old new r → OnOk r (IsReady new (with_standing name s t))
service_updated old new t name s (Err e) ready one h = tt
service_updated old new t name s (Ok count) ready one h =
    let at = ready.stores.layout in
    let has = ready.stores.holds in
    services_now at old new t has (change_where (is_service name) (change s) t.services)
    (updated at text 3 tests shown (table at) (standing_given name s) (is_update at) (is_plain at) (stands at) old new count has.schema h service_cells (is_service name) (change s) (fits name s) t.services one.0 (λ n. refl) (as_given at (change s one.0)) has.numbered.1.1.1.0 has.services one.1)
