-- What an UPDATE of one row does to a desk's tables.
use Rattle.std.proofs.Common.{◌≡◌, ◌≢◌, ℕ, ℤ, List, [], ◌∷◌, map, filter, drop, slice_get, Bool, Some, None, Ok, sym, ap, subst, ◌∙◌}
use Rattle.std.specs.List.{AllByRecursion}
use Rattle.sqlite.specs.declared.types.Value.{Value}
use Rattle.sqlite.specs.declared.types.Value.TheVariants.{Int}
use Rattle.sqlite.specs.Order.{Row, column}
use Rattle.sqlite.specs.Term.{Term}
use Rattle.sqlite.specs.Table.{Table}
use Rattle.sqlite.specs.Schema.{Schema}
use Rattle.sqlite.specs.Tree.{put_row, without_rowid}
use Rattle.sqlite.specs.Edit.{id_in, edit_of, taken_by}
use Rattle.sqlite.specs.Cast.{cast_row}
use Rattle.sqlite.specs.Command.TheVariants.{Update}
use Rattle.sqlite.specs.Rowids.TheVariants.{Given}
use Rattle.sqlite.specs.State.{State, mode_of, Writes, ExecutesInside}
use Rattle.sqlite.specs.Listing.{understood}
use Rattle.sqlite.specs.Given.{IsPlain}
use Rattle.sqlite.proofs.Callers.{command_of, statement_of, runs_as}
use Rattle.sqlite_rules.specs.Action.{works}
use Rattle.sqlite_rules.specs.Calls.{ids_of}
use Rattle.sqlite_schema.specs.declared.schema.Keys.TheVariants.{Enforced}
use Rattle.canary_tables_rows.specs.Changes.{change_where}
use Rattle.canary_tables_schema.specs.Layout.{Layout}
use Rattle.canary_tables_schema.specs.Schema.{schema_at}
use Rattle.canary_tables_schema.specs.Cells.{cells_of}
use Rattle.canary_tables_schema.specs.Stores.{IsNumbered}
use Rattle.canary_tables_write.proofs.Idle.{idle}
use Rattle.canary_tables_write.proofs.Inserted.{desk_spares, idle_desk}
use Rattle.canary_tables_write.proofs.Spared.{Changed}
use Rattle.canary_tables_write.proofs.UpdateAnswer.{plain_query, passes, shows}
use Rattle.canary_tables_write.proofs.UpdateRows.{updates}
use Rattle.canary_tables_write.proofs.UpdateTyped.{found, typed}

module _ (at : Layout) (text : List ℕ) (place : ℕ) (tests shown : List Term) (table : Table) (params : Row)
    (is : command_of (understood (schema_at at) text) ≡ Update place (record { lets = []; body = plain_query table.tree tests shown [] })) (plain : IsPlain (understood (schema_at at) text))
    (there : slice_get (schema_at at).tables place ≡ Some table) (before after : State) (count : ℕ) (schema : before.now.schema ≡ (schema_at at)) (h : ExecutesInside 0 text params before after (Ok count)) where
  ran : Writes before after None (Update place (record { lets = []; body = plain_query table.tree tests shown [] })) (statement_of text (understood (schema_at at) text)) params count
  ran = runs_as text params before after (schema_at at) schema (Update place (record { lets = []; body = plain_query table.tree tests shown [] })) is plain count h.0

  module _ (old new : Row) (n : ℤ) (one : filter (passes tests params) (before.now.trees table.tree) ≡ old ∷ []) (same : column (shows shown params old) 0 ≡ Int n)
      (cast : cast_row table (drop 1 (shows shown params old)) ≡ new) where
    quiet : works before.now.schema Enforced 0 table.tree (taken_by before.now.trees (edit_of before.now.trees table (ids_of (shows shown params old ∷ [])) Given 1 (shows shown params old ∷ []))) (new ∷ []) ≡ []
    quiet =
        subst (λ s. works s Enforced 0 table.tree (taken_by before.now.trees (edit_of before.now.trees table (ids_of (shows shown params old ∷ [])) Given 1 (shows shown params old ∷ []))) (new ∷ []) ≡ []) (sym schema)
        (idle (schema_at at) (idle_desk at) table.tree (taken_by before.now.trees (edit_of before.now.trees table (ids_of (shows shown params old ∷ [])) Given 1 (shows shown params old ∷ []))) (new ∷ []))

    put : (after.now.schema ≡ before.now.schema) × (after.now.trees table.tree ≡ put_row new (without_rowid n (before.now.trees table.tree)))
        × AllByRecursion (λ t. t.tree ≢ table.tree → after.now.trees t.tree ≡ before.now.trees t.tree) before.now.schema.tables
    put =
        let u = updates before.step_limit (mode_of before) params before.now (statement_of text (understood (schema_at at) text)) place tests shown table old new (ap (λ (s : Schema). slice_get s.tables place) schema ∙ there) one cast quiet ran.tally after.now ran.changed in
        (u.0, subst (λ v. after.now.trees table.tree ≡ put_row new (without_rowid (id_in v) (before.now.trees table.tree))) same u.1, u.2)

  module _ {R : Type 0} (cells : R → Row) (test : R → Bool) (change : R → R) (fits : (v : Value) (x : R) → passes tests params (v ∷ cells x) ≡ test x) (rows : List R) (row : R)
      (same : (n : ℤ) → column (shows shown params (Int n ∷ cells row)) 0 ≡ Int n) (cast : (n : ℤ) → cast_row table (drop 1 (shows shown params (Int n ∷ cells row))) ≡ Int n ∷ cells (change row)) where
    pub updated : IsNumbered (before.now.trees table.tree) → cells_of (before.now.trees table.tree) ≡ map cells rows → filter test rows ≡ row ∷ [] → Changed at table.tree cells (change_where test change rows) before after
    updated up stored one =
        let f = found cells (passes tests params) test fits (before.now.trees table.tree) rows row up.1 stored one in
        let p = put (Int f.0 ∷ cells row) (Int f.0 ∷ cells (change row)) f.0 f.1 (same f.0) (cast f.0) in
        let t = typed cells (passes tests params) test fits change row f.0 (before.now.trees table.tree) (after.now.trees table.tree) rows up stored one f.1 p.1 in
        record { live = h.1.mode; schema = p.0; spares = desk_spares at table.tree before.now.trees after.now.trees before.now.schema schema p.2; numbered = t.0; stored = t.1 }
