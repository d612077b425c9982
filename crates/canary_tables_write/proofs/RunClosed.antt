-- What the UPDATE that closes a run does.
use Rattle.std.proofs.Common.{◌≡◌, ◌&&◌, ℕ, ℤ, pos, List, [], ◌∷◌, codes, slice_get, true, Some, Ok, Err, Result, OnOk, refl, ap, ap₂, ◌∙◌}
use Rattle.std.specs.Str.{bytes_eq}
use Rattle.sqlite.specs.declared.types.Value.{Value}
use Rattle.sqlite.specs.declared.types.Value.TheVariants.{Int, Text as Words}
use Rattle.sqlite.specs.declared.error.Error.{Error}
use Rattle.sqlite.specs.Order.{Row}
use Rattle.sqlite.specs.Term.{Term, col, op2}
use Rattle.sqlite.specs.Table.{Table}
use Rattle.sqlite.specs.Cast.{cast_row}
use Rattle.sqlite.specs.Command.TheVariants.{Update}
use Rattle.sqlite.specs.State.{State, ExecutesInside}
use Rattle.sqlite.specs.Listing.{understood}
use Rattle.sqlite.specs.Given.{IsPlain}
use Rattle.sqlite.proofs.Callers.{command_of}
use Rattle.sqlite_sql.specs.declared.ops.BinaryOp.TheVariants.{Compare}
use Rattle.sqlite_sql.specs.declared.ops.CompareOp.TheVariants.{Eq}
use Rattle.sqlite_value.specs.declared.keys.Collation.TheVariants.{Binary}
use Rattle.sqlite_tied.specs.Compute.{everything}
use Rattle.canary_tables_rows.specs.declared.rows.ClosingColumns.{ClosingColumns}
use Rattle.canary_tables_rows.specs.declared.rows.RunRow.{RunRow}
use Rattle.canary_tables_rows.specs.Tables.{Tables, is_run}
use Rattle.canary_tables_rows.specs.Changes.{HasRun, change_where, with_ending}
use Rattle.canary_tables_schema.specs.Layout.{Layout, made, moved, packed, run_at}
use Rattle.canary_tables_schema.specs.Schema.{schema_at, run}
use Rattle.canary_tables_schema.specs.Cells.{integer, run_cells}
use Rattle.canary_tables_schema.specs.Stores.{IsReady}
use Rattle.canary_tables_write.proofs.Spared.{runs_now}
use Rattle.canary_tables_write.proofs.UpdateAnswer.{plain_query, passes}
use Rattle.canary_tables_write.proofs.Inserted.{cast_whole, cast_maybe}
use Rattle.canary_tables_write.proofs.UpdateDesk.{updated}
use Rattle.canary_tables_write.proofs.UpdateTests.{and_true, equal_words, equal_number}

abbrev text : List ℕ
text = codes "UPDATE run SET closed = ?3, outside = ?4, verdict = ?5 WHERE service = ?1 AND number = ?2"

abbrev tests : List Term
tests = op2 (Compare Eq Binary) (col 1 1) (col 0 0) ∷ op2 (Compare Eq Binary) (col 1 2) (col 0 1) ∷ []

abbrev shown : List Term
shown = col 1 0 ∷ col 1 0 ∷ col 1 1 ∷ col 1 2 ∷ col 1 3 ∷ col 1 4 ∷ col 0 2 ∷ col 0 3 ∷ col 0 4 ∷ []

abbrev table : Layout → Table
table at = record run { tree = run_at at }

is_update : (at : Layout) → command_of (understood (schema_at at) text) ≡ Update 4 (record { lets = []; body = plain_query (run_at at) tests shown [] })
unfolding understood everything
is_update made = refl
is_update moved = refl
is_update packed = refl

is_plain : (at : Layout) → IsPlain (understood (schema_at at) text)
unfolding understood everything
is_plain made = (refl, refl)
is_plain moved = (refl, refl)
is_plain packed = (refl, refl)

stands : (at : Layout) → slice_get (schema_at at).tables 4 ≡ Some (table at)
unfolding everything
stands at = refl

abbrev pub ending_at : ℕ → ℕ → ℕ → ClosingColumns
ending_at closed outside verdict = record { closed = Some closed; outside = outside; verdict = verdict }

abbrev change : ClosingColumns → RunRow → RunRow
change ending row = record row { ending = ending }

-- what the statement is given
abbrev pub ending_given : List ℕ → ℕ → ℕ → ℕ → ℕ → Row
ending_given service number closed outside verdict = Words service ∷ integer number ∷ integer closed ∷ integer outside ∷ integer verdict ∷ []

fits : (service : List ℕ) (number closed outside verdict : ℕ) (v : Value) (row : RunRow) → passes tests (ending_given service number closed outside verdict) (v ∷ run_cells row) ≡ is_run service number row
fits service number closed outside verdict v row = ap₂ (λ a b. a && (b && true)) (equal_words row.service service) (equal_number row.number number) ∙ ap (λ b. bytes_eq service row.service && b) (and_true _)

as_given : (at : Layout) (row : RunRow) (n : ℤ) → cast_row (table at) (Int n ∷ run_cells row) ≡ Int n ∷ run_cells row
as_given at row n =
    rw (cast_whole n, cast_whole (pos row.number), cast_maybe row.step, cast_whole (pos row.started), cast_maybe row.ending.closed, cast_whole (pos row.ending.outside), cast_whole (pos row.ending.verdict)) refl

pub run_closed : (old new : State) (t : Tables) (service : List ℕ) (number closed outside verdict : ℕ) (r : Result ℕ Error) → IsReady old t → HasRun service number t → ExecutesInside 0 text (ending_given service number closed outside verdict) old new r
    → OnOk r (IsReady new (with_ending service number (ending_at closed outside verdict) t))
run_closed old new t service number closed outside verdict (Err e) ready one h = tt
run_closed old new t service number closed outside verdict (Ok count) ready one h =
    let ending = ending_at closed outside verdict in
    let at = ready.stores.layout in
    let has = ready.stores.holds in
    runs_now at old new t has (change_where (is_run service number) (change ending) t.runs)
    (updated at text 4 tests shown (table at) (ending_given service number closed outside verdict) (is_update at) (is_plain at) (stands at) old new count has.schema h run_cells (is_run service number) (change ending) (fits service number closed outside verdict) t.runs one.0 (λ n. refl) (as_given at (change ending one.0)) has.numbered.1.1.1.1.0 has.runs one.1)
