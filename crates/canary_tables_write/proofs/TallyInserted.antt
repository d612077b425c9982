-- What the INSERT of a tally does.
use Rattle.std.proofs.Common.{◌≡◌, ℕ, pos, List, [], ◌∷◌, ◌++◌, codes, slice_get, Some, Ok, Err, Result, OnOk, refl}
use Rattle.sqlite.specs.declared.types.Value.TheVariants.{Null, Text as Words}
use Rattle.sqlite.specs.declared.error.Error.{Error}
use Rattle.sqlite.specs.Term.{lit, col}
use Rattle.sqlite.specs.Table.{Table}
use Rattle.sqlite.specs.Cast.{cast_row}
use Rattle.sqlite.specs.Command.TheVariants.{Insert}
use Rattle.sqlite.specs.Source.TheVariants.{Values}
use Rattle.sqlite.specs.State.{State, ExecutesInside}
use Rattle.sqlite.specs.Listing.{understood}
use Rattle.sqlite.specs.Given.{IsPlain}
use Rattle.sqlite.proofs.Callers.{command_of}
use Rattle.sqlite_tied.specs.Compute.{everything}
use Rattle.canary_metric.specs.Counts.{counts}
use Rattle.canary_tables_rows.specs.declared.rows.TallyRow.{TallyRow}
use Rattle.canary_tables_rows.specs.Tables.{Tables}
use Rattle.canary_tables_rows.specs.Changes.{with_tally}
use Rattle.canary_tables_schema.specs.Layout.{Layout, tally_at}
use Rattle.canary_tables_schema.specs.Schema.{schema_at, tally}
use Rattle.canary_tables_schema.specs.Cells.{tally_cells, integer}
use Rattle.canary_tables_schema.specs.Stores.{IsReady}
use Rattle.canary_tables_write.proofs.Inserted.{cast_null, cast_whole, cast_maybe, inserted}
use Rattle.canary_tables_write.proofs.Spared.{tallies_now}

abbrev text : List ℕ
text = codes "INSERT INTO tally (service, run, metric, counted, failed, inconclusive, errors, consecutive, passes) VALUES (?1, ?2, ?3, 0, 0, 0, 0, 0, 0)"

abbrev table : Layout → Table
table at = record tally { tree = tally_at at }

is_insert : (at : Layout) → command_of (understood (schema_at at) text) ≡ Insert 10 (Values (lit Null ∷ col 0 0 ∷ col 0 1 ∷ col 0 2 ∷ lit (integer 0) ∷ lit (integer 0) ∷ lit (integer 0) ∷ lit (integer 0) ∷ lit (integer 0) ∷ lit (integer 0) ∷ lit Null ∷ []) 11)
unfolding understood everything
is_insert at = refl

is_plain : (at : Layout) → IsPlain (understood (schema_at at) text)
unfolding understood everything
is_plain at = (refl, refl)

stands : (at : Layout) → slice_get (schema_at at).tables 10 ≡ Some (table at)
unfolding everything
stands at = refl

kept_as_given : (at : Layout) (row : TallyRow) → cast_row (table at) (Null ∷ tally_cells row) ≡ Null ∷ tally_cells row
kept_as_given at row = rw (cast_null, cast_whole (pos row.run), cast_whole (pos row.metric), cast_whole (pos row.counts.counted), cast_whole (pos row.counts.failed), cast_whole (pos row.counts.inconclusive), cast_whole (pos row.counts.errors), cast_whole (pos row.counts.consecutive), cast_whole (pos row.counts.passes), cast_maybe row.counts.last) refl

pub tally_inserted : (old new : State) (t : Tables) (service : List ℕ) (run metric : ℕ) (r : Result ℕ Error) → IsReady old t → ExecutesInside 0 text (Words service ∷ integer run ∷ integer metric ∷ []) old new r → OnOk r (IsReady new (with_tally (record { service = service; run = run; metric = metric; counts = counts [] }) t))
tally_inserted old new t service run metric (Err e) ready h = tt
tally_inserted old new t service run metric (Ok count) ready h =
    let row : TallyRow = record { service = service; run = run; metric = metric; counts = counts [] } in
    let at = ready.stores.layout in
    let has = ready.stores.holds in
    tallies_now at old new t has (t.tallies ++ row ∷ [])
    (inserted at text 10 _ 11 (table at) (Words service ∷ integer run ∷ integer metric ∷ []) (is_insert at) (is_plain at) (stands at) tally_cells row refl (kept_as_given at row) old new count has.schema h t.tallies has.numbered.1.1.1.1.1.1.1.1.1.0 has.tallies refl)
