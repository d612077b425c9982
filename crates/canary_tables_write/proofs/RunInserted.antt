-- What the INSERT of a run does.
use Rattle.std.proofs.Common.{◌≡◌, ℕ, pos, List, [], ◌∷◌, ◌++◌, codes, slice_get, Option, Some, None, Ok, Err, Result, OnOk, refl}
use Rattle.sqlite.specs.declared.types.Value.{Value}
use Rattle.sqlite.specs.declared.types.Value.TheVariants.{Null, Text as Words}
use Rattle.sqlite.specs.declared.error.Error.{Error}
use Rattle.sqlite.specs.Order.{Row}
use Rattle.sqlite.specs.Term.{lit, col}
use Rattle.sqlite.specs.Table.{Table}
use Rattle.sqlite.specs.Cast.{cast_row}
use Rattle.sqlite.specs.Command.TheVariants.{Insert}
use Rattle.sqlite.specs.Source.TheVariants.{Values}
use Rattle.sqlite.specs.State.{State, ExecutesInside}
use Rattle.sqlite.specs.Listing.{understood}
use Rattle.sqlite.specs.Given.{IsPlain}
use Rattle.sqlite.proofs.Callers.{command_of}
use Rattle.sqlite_tied.specs.Compute.{everything}
use Rattle.canary_tables_rows.specs.declared.rows.RunRow.{RunRow}
use Rattle.canary_tables_rows.specs.Tables.{Tables}
use Rattle.canary_tables_rows.specs.Changes.{with_run}
use Rattle.canary_tables_schema.specs.Layout.{Layout, run_at}
use Rattle.canary_tables_schema.specs.Schema.{schema_at, run}
use Rattle.canary_tables_schema.specs.Cells.{run_cells, integer, whole_or_null}
use Rattle.canary_tables_schema.specs.Stores.{IsReady}
use Rattle.canary_tables_write.proofs.Inserted.{cast_null, cast_whole, cast_maybe, inserted}
use Rattle.canary_tables_write.proofs.Spared.{runs_now}

abbrev text : List ℕ
text = codes "INSERT INTO run (service, number, step, started, outside, verdict) VALUES (?1, ?2, ?3, ?4, 0, 0)"

abbrev table : Layout → Table
table at = record run { tree = run_at at }

is_insert : (at : Layout) → command_of (understood (schema_at at) text) ≡ Insert 4 (Values (lit Null ∷ col 0 0 ∷ col 0 1 ∷ col 0 2 ∷ col 0 3 ∷ lit Null ∷ lit (integer 0) ∷ lit (integer 0) ∷ []) 8)
unfolding understood everything
is_insert at = refl

is_plain : (at : Layout) → IsPlain (understood (schema_at at) text)
unfolding understood everything
is_plain at = (refl, refl)

stands : (at : Layout) → slice_get (schema_at at).tables 4 ≡ Some (table at)
unfolding everything
stands at = refl

kept_as_given : (at : Layout) (row : RunRow) → cast_row (table at) (Null ∷ run_cells row) ≡ Null ∷ run_cells row
kept_as_given at row = rw (cast_null, cast_whole (pos row.number), cast_maybe row.step, cast_whole (pos row.started), cast_maybe row.ending.closed, cast_whole (pos row.ending.outside), cast_whole (pos row.ending.verdict)) refl

pub run_inserted : (old new : State) (t : Tables) (service : List ℕ) (number : ℕ) (step : Option ℕ) (started : ℕ) (r : Result ℕ Error) → IsReady old t → (given : Value) → given ≡ whole_or_null step
    → ExecutesInside 0 text (Words service ∷ integer number ∷ given ∷ integer started ∷ []) old new r
    → OnOk r (IsReady new (with_run (record { service = service; number = number; step = step; started = started; ending = record { closed = None; outside = 0; verdict = 0 } }) t))
run_inserted old new t service number step started (Err e) ready given is h = tt
run_inserted old new t service number step started (Ok count) ready given is h =
    let row : RunRow = record { service = service; number = number; step = step; started = started; ending = record { closed = None; outside = 0; verdict = 0 } } in
    let params : Row = Words service ∷ integer number ∷ whole_or_null step ∷ integer started ∷ [] in
    let at = ready.stores.layout in
    let has = ready.stores.holds in
    runs_now at old new t has (t.runs ++ row ∷ [])
    (inserted at text 4 _ 8 (table at) params (is_insert at) (is_plain at) (stands at) run_cells row refl (kept_as_given at row) old new count has.schema (rw is at h) t.runs has.numbered.1.1.1.1.0 has.runs refl)
