-- What the INSERT of a revision of a template does.
use Rattle.std.proofs.Common.{◌≡◌, ℕ, pos, List, [], ◌∷◌, ◌++◌, codes, slice_get, Some, Ok, Err, Result, OnOk, refl}
use Rattle.sqlite.specs.declared.types.Value.TheVariants.{Null}
use Rattle.sqlite.specs.declared.error.Error.{Error}
use Rattle.sqlite.specs.Order.{Row}
use Rattle.sqlite.specs.Term.{lit, col}
use Rattle.sqlite.specs.Table.{Table}
use Rattle.sqlite.specs.Cast.{cast_row}
use Rattle.sqlite.specs.Command.TheVariants.{Insert}
use Rattle.sqlite.specs.Source.TheVariants.{Values}
use Rattle.sqlite.specs.State.{State, ExecutesInside}
use Rattle.sqlite.specs.Effect.{IsDatabase}
use Rattle.sqlite.specs.Listing.{understood}
use Rattle.sqlite.specs.Given.{IsPlain}
use Rattle.sqlite.proofs.Callers.{command_of}
use Rattle.sqlite_tied.specs.Compute.{everything}
use Rattle.canary_tables_rows.specs.declared.rows.RevisionRow.{RevisionRow}
use Rattle.canary_tables_rows.specs.Tables.{Tables}
use Rattle.canary_tables_rows.specs.Changes.{with_revision}
use Rattle.canary_tables_schema.specs.Layout.{Layout, revision_at}
use Rattle.canary_tables_schema.specs.Schema.{schema_at, revision}
use Rattle.canary_tables_schema.specs.Cells.{revision_cells}
use Rattle.canary_tables_schema.specs.Stores.{IsReady}
use Rattle.canary_tables_write.proofs.Inserted.{cast_null, cast_whole, inserted}
use Rattle.canary_tables_write.proofs.SoundAfter.{sound_after}
use Rattle.canary_tables_write.proofs.Spared.{revisions_now}

abbrev text : List ℕ
text = codes "INSERT INTO revision (name, revision, spec) VALUES (?1, ?2, ?3)"

abbrev table : Layout → Table
table at = record revision { tree = revision_at at }

is_insert : (at : Layout) → command_of (understood (schema_at at) text) ≡ Insert 8 (Values (lit Null ∷ col 0 0 ∷ col 0 1 ∷ col 0 2 ∷ []) 4)
unfolding understood everything
is_insert at = refl

is_plain : (at : Layout) → IsPlain (understood (schema_at at) text)
unfolding understood everything
is_plain at = (refl, refl)

stands : (at : Layout) → slice_get (schema_at at).tables 8 ≡ Some (table at)
unfolding everything
stands at = refl

kept_as_given : (at : Layout) (row : RevisionRow) → cast_row (table at) (Null ∷ revision_cells row) ≡ Null ∷ revision_cells row
kept_as_given at row = rw (cast_null, cast_whole (pos row.revision)) refl

pub revision_inserted : (old new : State) (t : Tables) (row : RevisionRow) (r : Result ℕ Error) → IsReady old t → ExecutesInside 0 text (revision_cells row) old new r → OnOk r (IsReady new (with_revision row t))
revision_inserted old new t row (Err e) ready h = tt
revision_inserted old new t row (Ok count) ready h =
    let at = ready.stores.layout in
    let has = ready.stores.holds in
    revisions_now at old new t has (t.revisions ++ row ∷ [])
    (inserted at text 8 _ 4 (table at) (revision_cells row) (is_insert at) (is_plain at) (stands at) revision_cells row refl (kept_as_given at row) old new count has.schema h t.revisions has.numbered.1.1.1.1.1.1.1.0 has.revisions refl)

pub revision_sound : (old new : State) (t : Tables) (row : RevisionRow) (r : Result ℕ Error) → IsReady old t → (params : Row) → ExecutesInside 0 text params old new r → OnOk r (IsDatabase new.now)
revision_sound old new t row (Err e) ready params h = tt
revision_sound old new t row (Ok count) ready params h = let at = ready.stores.layout in sound_after at text 8 _ 4 params (is_insert at) (is_plain at) old new count ready.stores.holds.schema h
