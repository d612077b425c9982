-- What the UPDATE of a binding does.
use Rattle.std.proofs.Common.{◌≡◌, ◌&&◌, ◌==◌, ℕ, ℤ, pos, List, [], ◌∷◌, codes, slice_get, true, Some, Ok, Err, Result, OnOk, refl, ap, ap₂, ◌∙◌}
use Rattle.sqlite.specs.declared.types.Value.{Value}
use Rattle.sqlite.specs.declared.types.Value.TheVariants.{Int, Text as Words}
use Rattle.sqlite.specs.declared.error.Error.{Error}
use Rattle.sqlite.specs.Order.{Row}
use Rattle.sqlite.specs.Term.{Term, col, op2}
use Rattle.sqlite.specs.Table.{Table}
use Rattle.sqlite.specs.Cast.{cast_row}
use Rattle.sqlite.specs.Command.TheVariants.{Update}
use Rattle.sqlite.specs.State.{State, ExecutesInside}
use Rattle.sqlite.specs.Listing.{understood}
use Rattle.sqlite.specs.Given.{IsPlain}
use Rattle.sqlite.proofs.Callers.{command_of}
use Rattle.sqlite_sql.specs.declared.ops.BinaryOp.TheVariants.{Compare}
use Rattle.sqlite_sql.specs.declared.ops.CompareOp.TheVariants.{Eq}
use Rattle.sqlite_value.specs.declared.keys.Collation.TheVariants.{Binary}
use Rattle.sqlite_tied.specs.Compute.{everything}
use Rattle.canary_tables_rows.specs.declared.rows.BindingRow.{BindingRow}
use Rattle.canary_tables_rows.specs.Tables.{Tables, is_binding}
use Rattle.canary_tables_rows.specs.Changes.{HasBinding, change_where, with_bound}
use Rattle.canary_tables_schema.specs.Layout.{Layout, made, moved, packed, binding_at}
use Rattle.canary_tables_schema.specs.Schema.{schema_at, binding}
use Rattle.canary_tables_schema.specs.Cells.{integer, binding_cells}
use Rattle.canary_tables_schema.specs.Stores.{IsReady}
use Rattle.canary_tables_write.proofs.Spared.{bindings_now}
use Rattle.canary_tables_write.proofs.UpdateAnswer.{plain_query, passes}
use Rattle.canary_tables_write.proofs.Inserted.{cast_whole}
use Rattle.canary_tables_write.proofs.UpdateDesk.{updated}
use Rattle.canary_tables_write.proofs.UpdateTests.{and_true, equal_words, equal_number}

abbrev text : List ℕ
text = codes "UPDATE binding SET revision = ?4 WHERE service = ?1 AND run = ?2 AND template = ?3"

abbrev tests : List Term
tests = op2 (Compare Eq Binary) (col 1 1) (col 0 0) ∷ op2 (Compare Eq Binary) (col 1 2) (col 0 1) ∷ op2 (Compare Eq Binary) (col 1 3) (col 0 2) ∷ []

abbrev shown : List Term
shown = col 1 0 ∷ col 1 0 ∷ col 1 1 ∷ col 1 2 ∷ col 1 3 ∷ col 0 3 ∷ []

abbrev table : Layout → Table
table at = record binding { tree = binding_at at }

is_update : (at : Layout) → command_of (understood (schema_at at) text) ≡ Update 9 (record { lets = []; body = plain_query (binding_at at) tests shown [] })
unfolding understood everything
is_update made = refl
is_update moved = refl
is_update packed = refl

is_plain : (at : Layout) → IsPlain (understood (schema_at at) text)
unfolding understood everything
is_plain made = (refl, refl)
is_plain moved = (refl, refl)
is_plain packed = (refl, refl)

stands : (at : Layout) → slice_get (schema_at at).tables 9 ≡ Some (table at)
unfolding everything
stands at = refl

abbrev change : ℕ → BindingRow → BindingRow
change revision row = record row { revision = revision }

-- what the statement is given
abbrev pub bound_given : List ℕ → ℕ → List ℕ → ℕ → Row
bound_given service run template revision = Words service ∷ integer run ∷ Words template ∷ integer revision ∷ []

fits : (service : List ℕ) (run : ℕ) (template : List ℕ) (revision : ℕ) (v : Value) (row : BindingRow) → passes tests (bound_given service run template revision) (v ∷ binding_cells row) ≡ is_binding service run template row
fits service run template revision v row =
    ap₂ (λ a b. a && b) (equal_words row.service service) (ap₂ (λ a b. a && (b && true)) (equal_number row.run run) (equal_words row.template template) ∙ ap (λ b. (run == row.run) && b) (and_true _))

as_given : (at : Layout) (row : BindingRow) (n : ℤ) → cast_row (table at) (Int n ∷ binding_cells row) ≡ Int n ∷ binding_cells row
as_given at row n = rw (cast_whole n, cast_whole (pos row.run), cast_whole (pos row.revision)) refl

pub binding_updated : (old new : State) (t : Tables) (service : List ℕ) (run : ℕ) (template : List ℕ) (revision : ℕ) (r : Result ℕ Error) → IsReady old t → HasBinding service run template t → ExecutesInside 0 text (bound_given service run template revision) old new r
    → OnOk r (IsReady new (with_bound service run template revision t))
binding_updated old new t service run template revision (Err e) ready one h = tt
binding_updated old new t service run template revision (Ok count) ready one h =
    let at = ready.stores.layout in
    let has = ready.stores.holds in
    bindings_now at old new t has (change_where (is_binding service run template) (change revision) t.bindings)
    (updated at text 9 tests shown (table at) (bound_given service run template revision) (is_update at) (is_plain at) (stands at) old new count has.schema h binding_cells (is_binding service run template) (change revision) (fits service run template revision) t.bindings one.0 (λ n. refl) (as_given at (change revision one.0)) has.numbered.1.1.1.1.1.1.1.1.0 has.bindings one.1)
