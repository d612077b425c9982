-- What the INSERT of a measurement does.
use Rattle.std.proofs.Common.{◌≡◌, ◌≢◌, ℕ, pos, List, [], ◌∷◌, ◌++◌, codes, slice_get, Some, Ok, Err, Result, OnOk, refl}
use Rattle.sqlite.specs.declared.types.Value.TheVariants.{Null, Text as Words}
use Rattle.sqlite.specs.declared.error.Error.{Error}
use Rattle.sqlite.specs.Term.{lit, col}
use Rattle.sqlite.specs.Table.{Table}
use Rattle.sqlite.specs.Cast.{cast_row}
use Rattle.sqlite.specs.Command.TheVariants.{Insert}
use Rattle.sqlite.specs.Source.TheVariants.{Values}
use Rattle.sqlite.specs.State.{State, ExecutesInside}
use Rattle.sqlite.specs.Listing.{understood}
use Rattle.sqlite.specs.Given.{IsPlain}
use Rattle.sqlite.proofs.Callers.{command_of}
use Rattle.sqlite_tied.specs.Compute.{everything}
use Rattle.canary_tables_rows.specs.declared.rows.MeasurementRow.{MeasurementRow}
use Rattle.canary_tables_rows.specs.Tables.{Tables}
use Rattle.canary_tables_rows.specs.Changes.{with_measurement}
use Rattle.canary_tables_schema.specs.Layout.{Layout, desk_trees, sequence_at, measurement_at, numbers_at}
use Rattle.canary_tables_schema.specs.Schema.{schema_at, measurement}
use Rattle.canary_tables_schema.specs.Cells.{measurement_cells, integer}
use Rattle.canary_tables_schema.specs.Stores.{IsReady}
use Rattle.canary_tables_write.proofs.Inserted.{cast_null, cast_whole, counted_in}
use Rattle.canary_tables_write.proofs.Spared.{measurements_now, all_apart, sequence_apart}

abbrev text : List ℕ
text = codes "INSERT INTO measurement (service, run, metric, ordinal, taken, phase, outcome) VALUES (?1, ?2, ?3, ?4, ?5, ?6, ?7)"

abbrev table : Layout → Table
table at = record (measurement (numbers_at at).is_placed) { tree = measurement_at at }

is_insert : (at : Layout) → command_of (understood (schema_at at) text) ≡ Insert 5 (Values (lit Null ∷ lit Null ∷ col 0 0 ∷ col 0 1 ∷ col 0 2 ∷ col 0 3 ∷ col 0 4 ∷ col 0 5 ∷ col 0 6 ∷ []) 9)
unfolding understood everything
is_insert at = refl

is_plain : (at : Layout) → IsPlain (understood (schema_at at) text)
unfolding understood everything
is_plain at = (refl, refl)

stands : (at : Layout) → slice_get (schema_at at).tables 5 ≡ Some (table at)
unfolding everything
stands at = refl

kept_as_given : (at : Layout) (row : MeasurementRow) → cast_row (table at) (Null ∷ measurement_cells row) ≡ Null ∷ measurement_cells row
kept_as_given at row = rw (cast_null, cast_whole (pos row.run), cast_whole (pos row.metric), cast_whole (pos row.ordinal), cast_whole (pos row.taken), cast_whole (pos row.phase)) refl

apart : (at : Layout) → (table at).tree ≢ sequence_at at
apart at = (all_apart (sequence_at at) (desk_trees at) (sequence_apart at)).1.1.1.1.1.0

pub measurement_inserted : (old new : State) (t : Tables) (row : MeasurementRow) (r : Result ℕ Error) → IsReady old t → ExecutesInside 0 text (Words row.service ∷ integer row.run ∷ integer row.metric ∷ integer row.ordinal ∷ integer row.taken ∷ integer row.phase ∷ Words row.outcome ∷ []) old new r → OnOk r (IsReady new (with_measurement row t))
measurement_inserted old new t row (Err e) ready h = tt
measurement_inserted old new t row (Ok count) ready h =
    let at = ready.stores.layout in
    let has = ready.stores.holds in
    measurements_now at old new t has (t.measurements ++ row ∷ [])
    (counted_in at text 5 _ 9 (table at) (Words row.service ∷ integer row.run ∷ integer row.metric ∷ integer row.ordinal ∷ integer row.taken ∷ integer row.phase ∷ Words row.outcome ∷ []) (is_insert at) (is_plain at) (stands at) measurement_cells row refl (kept_as_given at row) old new count has.schema h t.measurements has.numbered.1.1.1.1.1.0 has.measurements refl (apart at))
