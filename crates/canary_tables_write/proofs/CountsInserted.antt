-- What the INSERT of a tally with its counts does.
use Rattle.std.proofs.Common.{◌≡◌, ℕ, pos, List, [], ◌∷◌, ◌++◌, codes, slice_get, Option, Some, None, option_map, Ok, Err, Result, OnOk, refl, ap, ◌∙◌}
use Rattle.sqlite.specs.declared.types.Value.{Value}
use Rattle.sqlite.specs.declared.types.Value.TheVariants.{Null, Int, Text as Words}
use Rattle.sqlite.specs.declared.error.Error.{Error}
use Rattle.sqlite.specs.Order.{Row}
use Rattle.sqlite.specs.Values.{or_null, bound_value}
use Rattle.sqlite.specs.Term.{lit, col}
use Rattle.sqlite.specs.Table.{Table}
use Rattle.sqlite.specs.Cast.{cast_row}
use Rattle.sqlite.specs.Command.TheVariants.{Insert}
use Rattle.sqlite.specs.Source.TheVariants.{Values}
use Rattle.sqlite.specs.State.{State, ExecutesInside}
use Rattle.sqlite.specs.Effect.{IsDatabase}
use Rattle.sqlite.specs.Listing.{understood}
use Rattle.sqlite.specs.Given.{IsPlain}
use Rattle.sqlite.proofs.Callers.{command_of}
use Rattle.sqlite_tied.specs.Compute.{everything}
use Rattle.canary_tables_rows.specs.declared.rows.TallyRow.{TallyRow}
use Rattle.canary_tables_rows.specs.Tables.{Tables}
use Rattle.canary_tables_rows.specs.Changes.{with_tally}
use Rattle.canary_tables_schema.specs.Layout.{Layout, tally_at}
use Rattle.canary_tables_schema.specs.Schema.{schema_at, tally}
use Rattle.canary_tables_schema.specs.Cells.{tally_cells, integer, whole_or_null}
use Rattle.canary_tables_schema.specs.Stores.{IsReady}
use Rattle.canary_tables_write.proofs.Inserted.{cast_null, cast_whole, cast_maybe, inserted}
use Rattle.canary_tables_write.proofs.SoundAfter.{sound_after}
use Rattle.canary_tables_write.proofs.Spared.{tallies_now}

abbrev text : List ℕ
text = codes "INSERT INTO tally (service, run, metric, counted, failed, inconclusive, errors, consecutive, passes, last) VALUES (?1, ?2, ?3, ?4, ?5, ?6, ?7, ?8, ?9, ?10)"

abbrev table : Layout → Table
table at = record tally { tree = tally_at at }

is_insert : (at : Layout) → command_of (understood (schema_at at) text) ≡ Insert 10 (Values (lit Null ∷ col 0 0 ∷ col 0 1 ∷ col 0 2 ∷ col 0 3 ∷ col 0 4 ∷ col 0 5 ∷ col 0 6 ∷ col 0 7 ∷ col 0 8 ∷ col 0 9 ∷ []) 11)
unfolding understood everything
is_insert at = refl

is_plain : (at : Layout) → IsPlain (understood (schema_at at) text)
unfolding understood everything
is_plain at = (refl, refl)

stands : (at : Layout) → slice_get (schema_at at).tables 10 ≡ Some (table at)
unfolding everything
stands at = refl

kept_as_given : (at : Layout) (row : TallyRow) → cast_row (table at) (Null ∷ tally_cells row) ≡ Null ∷ tally_cells row
kept_as_given at row = rw (cast_null, cast_whole (pos row.run), cast_whole (pos row.metric), cast_whole (pos row.counts.counted), cast_whole (pos row.counts.failed), cast_whole (pos row.counts.inconclusive), cast_whole (pos row.counts.errors), cast_whole (pos row.counts.consecutive), cast_whole (pos row.counts.passes), cast_maybe row.counts.last) refl

-- a moment or none, as a parameter
pub moment_given : (n : Option ℕ) → bound_value (or_null Int (option_map pos n)) ≡ whole_or_null n
moment_given None = refl
moment_given (Some n) = refl

pub counts_inserted : (old new : State) (t : Tables) (row : TallyRow) (r : Result ℕ Error) → IsReady old t → (params : Row) → params ≡ tally_cells row → ExecutesInside 0 text params old new r → OnOk r (IsReady new (with_tally row t))
counts_inserted old new t row (Err e) ready params is h = tt
counts_inserted old new t row (Ok count) ready params is h =
    let at = ready.stores.layout in
    let has = ready.stores.holds in
    tallies_now at old new t has (t.tallies ++ row ∷ [])
    (inserted at text 10 _ 11 (table at) (tally_cells row) (is_insert at) (is_plain at) (stands at) tally_cells row refl (kept_as_given at row) old new count has.schema (rw is at h) t.tallies has.numbered.1.1.1.1.1.1.1.1.1.0 has.tallies refl)

pub counts_sound : (old new : State) (t : Tables) (row : TallyRow) (r : Result ℕ Error) → IsReady old t → (params : Row) → ExecutesInside 0 text params old new r → OnOk r (IsDatabase new.now)
counts_sound old new t row (Err e) ready params h = tt
counts_sound old new t row (Ok count) ready params h = let at = ready.stores.layout in sound_after at text 10 _ 11 params (is_insert at) (is_plain at) old new count ready.stores.holds.schema h
