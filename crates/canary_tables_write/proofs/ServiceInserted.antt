-- What the INSERT of a service does.
use Rattle.std.proofs.Common.{◌≡◌, ℕ, pos, List, [], ◌∷◌, ◌++◌, codes, slice_get, Some, Ok, Err, Result, OnOk, refl, subst}
use Rattle.sqlite.specs.declared.types.Value.TheVariants.{Null}
use Rattle.sqlite.specs.declared.error.Error.{Error}
use Rattle.sqlite.specs.Term.{lit, col}
use Rattle.sqlite.specs.Table.{Table}
use Rattle.sqlite.specs.Order.{Row}
use Rattle.sqlite.specs.Cast.{cast_row}
use Rattle.sqlite.specs.Command.TheVariants.{Insert}
use Rattle.sqlite.specs.Source.TheVariants.{Values}
use Rattle.sqlite.specs.State.{State, ExecutesInside}
use Rattle.sqlite.specs.Listing.{understood}
use Rattle.sqlite.specs.Given.{IsPlain}
use Rattle.sqlite.proofs.Callers.{command_of}
use Rattle.sqlite_tied.specs.Compute.{everything}
use Rattle.canary_tables_rows.specs.declared.rows.ServiceRow.{ServiceRow}
use Rattle.canary_tables_rows.specs.Tables.{Tables}
use Rattle.canary_tables_rows.specs.Changes.{with_service}
use Rattle.canary_tables_schema.specs.Layout.{Layout, service_at}
use Rattle.canary_tables_schema.specs.Schema.{schema_at, service}
use Rattle.canary_tables_schema.specs.Cells.{service_cells}
use Rattle.canary_tables_schema.specs.Stores.{IsReady}
use Rattle.canary_tables_write.proofs.Inserted.{cast_null, cast_whole, inserted}
use Rattle.canary_tables_write.proofs.Spared.{services_now}

abbrev text : List ℕ
text = codes "INSERT INTO service (name, spec, stable, version, state, step, entered, hold, background, runs, last) VALUES (?1, ?2, ?3, ?4, ?5, ?6, ?7, ?8, ?9, ?10, ?11)"

abbrev table : Layout → Table
table at = record service { tree = service_at at }

is_insert : (at : Layout) → command_of (understood (schema_at at) text) ≡ Insert 3 (Values (lit Null ∷ col 0 0 ∷ col 0 1 ∷ col 0 2 ∷ col 0 3 ∷ col 0 4 ∷ col 0 5 ∷ col 0 6 ∷ col 0 7 ∷ col 0 8 ∷ col 0 9 ∷ col 0 10 ∷ []) 12)
unfolding understood everything
is_insert at = refl

is_plain : (at : Layout) → IsPlain (understood (schema_at at) text)
unfolding understood everything
is_plain at = (refl, refl)

stands : (at : Layout) → slice_get (schema_at at).tables 3 ≡ Some (table at)
unfolding everything
stands at = refl

kept_as_given : (at : Layout) (row : ServiceRow) → cast_row (table at) (Null ∷ service_cells row) ≡ Null ∷ service_cells row
kept_as_given at row = rw (cast_null, cast_whole (pos row.standing.state), cast_whole (pos row.standing.step), cast_whole (pos row.standing.entered), cast_whole (pos row.standing.hold), cast_whole (pos row.standing.background), cast_whole (pos row.standing.runs), cast_whole (pos row.standing.last)) refl

as_given : (old new : State) (t : Tables) (row : ServiceRow) (r : Result ℕ Error) → IsReady old t → ExecutesInside 0 text (service_cells row) old new r → OnOk r (IsReady new (with_service (row) t))
as_given old new t row (Err e) ready h = tt
as_given old new t row (Ok count) ready h =
    let at = ready.stores.layout in
    let has = ready.stores.holds in
    services_now at old new t has (t.services ++ row ∷ [])
    (inserted at text 3 _ 12 (table at) (service_cells row) (is_insert at) (is_plain at) (stands at) service_cells row refl (kept_as_given at row) old new count has.schema h t.services has.numbered.1.1.1.0 has.services refl)

pub service_inserted : (old new : State) (t : Tables) (row : ServiceRow) (r : Result ℕ Error) → IsReady old t → (given : Row) → ExecutesInside 0 text given old new r → given ≡ service_cells row → OnOk r (IsReady new (with_service (row) t))
service_inserted old new t row r ready given h is = as_given old new t row r ready (subst (λ (cells : Row). ExecutesInside 0 text cells old new r) is h)
