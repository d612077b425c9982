-- What a plain INSERT of one row does.
use Rattle.std.proofs.Common.{◌≡◌, ◌≢◌, ◌&&◌, ℤ, ℕ, ◌/◌, List, [], ◌∷◌, length, ◌==◌, slice_get, Bool, true, false, not, if◌then◌else◌, Option, Some, None, Ok, refl, sym, ap, subst, ◌∙◌}
use Rattle.std.specs.List.{flat_map, filter_map}
use Rattle.sqlite.specs.declared.types.Value.TheVariants.{Null}
use Rattle.sqlite.specs.Order.{Row}
use Rattle.sqlite.specs.Term.{Term}
use Rattle.sqlite.specs.Table.{Table}
use Rattle.sqlite.specs.Schema.{Schema}
use Rattle.sqlite.specs.Source.TheVariants.{Values}
use Rattle.sqlite.specs.Command.TheVariants.{Insert}
use Rattle.sqlite.specs.Edit.{Edit, edit_of, is_taken, with_rowid}
use Rattle.sqlite.specs.Cast.{cast_row}
use Rattle.sqlite.specs.Rowids.TheVariants.{Chosen, Above}
use Rattle.sqlite.specs.Does.{Tally, Does}
use Rattle.sqlite.specs.Rows.{Written, Task, stamped, rowids_for, Inserts, Counter, Counts}
use Rattle.sqlite.specs.Effect.{IsSource}
use Rattle.sqlite.specs.Source.{Source}
use Rattle.std.specs.List.{AllByRecursion}
use Rattle.sqlite_rules.specs.Action.{Writes}
use Rattle.sqlite.specs.Edit.{Applies}
use Rattle.sqlite.specs.Tree.{Trees, put_row}
use Rattle.sqlite.specs.declared.run.Mode.{Mode}
use Rattle.sqlite.specs.Effect.{Database, value_rows}
use Rattle.sqlite.proofs.Callers.{one_step}
use Rattle.sqlite_rules.specs.Action.{works, work_for, work_by, deed_for}
use Rattle.sqlite_schema.specs.declared.schema.Keys.{Keys}
use Rattle.sqlite_schema.specs.declared.schema.Reference.{Reference}
use Rattle.sqlite_schema.specs.Rules.{parent_key, ParentKey}
use Rattle.sqlite_rules.specs.declared.action.Deed.{Deed}
use Rattle.canary_tables_schema.specs.Adds.{AddsRow, numbered_row}
use Rattle.canary_tables_schema.proofs.Went.{went, same_value}

-- if no row goes, no key acts
and_false : (b : Bool) → (b && false) ≡ false
and_false true = refl
and_false false = refl

none_by : (depth tree : ℕ) (child : Table) (ref : Reference) (deed : Option Deed) (key : Option ParentKey) → work_by depth tree [] child ref deed key ≡ None
none_by depth tree child ref None key = refl
none_by depth tree child ref (Some deed) None = refl
none_by depth tree child ref (Some deed) (Some key) = rw (and_false (key.0 == tree)) refl

none_for : (schema : Schema) (keys : Keys) (tree : ℕ) (news : List Row) (child : Table) (refs : List Reference) → filter_map (work_for schema keys 0 tree [] news child) refs ≡ []
none_for schema keys tree news child [] = refl
none_for schema keys tree news child (ref ∷ refs) =
    rw (none_by 0 tree child ref (deed_for keys (length news == 0) ref) (parent_key schema.tables ref)) (none_for schema keys tree news child refs)

none_in : (schema : Schema) (keys : Keys) (tree : ℕ) (news : List Row) (tables : List Table) → flat_map (λ child. filter_map (work_for schema keys 0 tree [] news child) child.references) tables ≡ []
none_in schema keys tree news [] = refl
none_in schema keys tree news (t ∷ ts) = rw (none_for schema keys tree news t t.references) (none_in schema keys tree news ts)

pub no_works : (schema : Schema) (keys : Keys) (tree : ℕ) (news : List Row) → works schema keys 0 tree [] news ≡ []
no_works schema keys tree news = none_in schema keys tree news schema.tables

-- an INSERT writes its rows, and then the keys are tested
pub does : (limit : Option ℕ) (mode : Mode) (params : Row) (db : Database) (text : List ℕ) (at : ℕ) (from : Source) (table : Table) → slice_get db.schema.tables at ≡ Some table
    → (tally : Tally) (after : Database) → Does limit mode params db text None (Insert at from) (Ok (tally, after))
    → (w : Written) × Inserts (record { limit = limit; keys = mode.keys; schema = db.schema; table = table; params = params }) from db.trees (Ok w) × (after ≡ record { schema = db.schema; trees = w.trees })
does limit mode params db text at from table there tally after h =
    let done = went (rw there at h) in
    (done.0, done.1, ap (λ (p : Tally × Database). p.1) (same_value (went (went done.2).2).2))

counter_is : (task : Task) (db : Trees) (counter : Option Row) → task.table.is_counted ≡ false → Counter task db (Ok counter) → counter ≡ None
counter_is task db counter uncounted h = same_value (rw uncounted at h)

pub counts_is : (task : Task) (db next : Trees) (counter : Option Row) (top : ℤ) → task.table.is_counted ≡ false → Counts task db counter top (Ok next) → next ≡ db
counts_is task db next counter top uncounted h = same_value (rw uncounted at h)

edit_for : Task → Trees → List Row → Edit
edit_for task db rows = edit_of db task.table [] Chosen 0 rows

chosen : (task : Task) (db : Trees) (rows : List Row) (top : ℤ) (next : Trees) → task.table.is_counted ≡ false
    → Writes task.schema task.keys db (edit_of db task.table [] (rowids_for task.table top) 0 rows) (Ok next) → Writes task.schema task.keys db (edit_for task db rows) (Ok next)
unfolding edit_for
chosen task db rows top next uncounted = subst (λ b. Writes task.schema task.keys db (edit_of db task.table [] (if b then Above top else Chosen) 0 rows) (Ok next)) uncounted

writes : (task : Task) (from : Source) (db : Trees) (w : Written) → task.table.is_counted ≡ false → Inserts task from db (Ok w)
    → (rows : List Row) × IsSource (record { schema = task.schema; trees = db }) (stamped task.table task.params) from rows × Writes task.schema task.keys db (edit_for task db rows) (Ok w.trees)
unfolding edit_for
writes task from db w uncounted h =
    let source = went h in
    let counted = went source.2 in
    let written = went counted.2 in
    let last = went written.2 in
    let trees : w.trees ≡ written.0 = ap (λ (it : Written). it.trees) (same_value last.2) ∙ counts_is task written.0 last.0 counted.0 _ uncounted last.1 in
    (source.0, source.1, subst (λ t. Writes task.schema task.keys db (edit_for task db source.0) (Ok t)) (sym trees) (chosen task db source.0 _ written.0 uncounted written.1))

applies : (task : Task) (db next : Trees) (rows : List Row) → Writes task.schema task.keys db (edit_for task db rows) (Ok next) → Applies task.schema task.keys db (edit_for task db rows) next
unfolding edit_for
applies task db next rows = one_step task.schema task.keys db next (edit_for task db rows) (no_works task.schema task.keys task.table.tree (edit_for task db rows).news)

one_row : (task : Task) (db next : Trees) (rows : List Row) (row : Row) → rows ≡ (Null ∷ row) ∷ [] → cast_row task.table (Null ∷ row) ≡ Null ∷ row → Applies task.schema task.keys db (edit_for task db rows) next
    → (next task.table.tree ≡ put_row (numbered_row row (db task.table.tree)) (db task.table.tree)) × (is_taken (db task.table.tree) (numbered_row row (db task.table.tree)) ≡ false)
unfolding edit_for
one_row task db next rows row given cast h =
    let news : (edit_for task db rows).news ≡ numbered_row row (db task.table.tree) ∷ [] = ap (λ all. (edit_for task db all).news) given ∙ ap (λ r. with_rowid Chosen (db task.table.tree) r ∷ []) cast in
    let fresh = rw news at h.fresh in
    (rw news at h.rows, not_false _ (and_left _ _ fresh))
  where
    and_left : (a b : Bool) → (a && b) ≡ true → a ≡ true
    and_left true b e = refl
    and_left false b e = e

    not_false : (a : Bool) → not a ≡ true → a ≡ false
    not_false false e = refl
    not_false true e = absurd cc

module _ (limit : Option ℕ) (mode : Mode) (params : Row) (db : Database) (text : List ℕ) (at : ℕ) (terms : List Term) (width : ℕ) (table : Table) (row : Row)
    (there : slice_get db.schema.tables at ≡ Some table) (uncounted : table.is_counted ≡ false)
    (given : value_rows (stamped table params) width (length terms / width) terms ≡ (Null ∷ row) ∷ []) (cast : cast_row table (Null ∷ row) ≡ Null ∷ row) where
  pub inserts : (tally : Tally) (after : Database) → Does limit mode params db text None (Insert at (Values terms width)) (Ok (tally, after)) → AddsRow table.tree row db after
  unfolding edit_for
  inserts tally after h =
      let task : Task = record { limit = limit; keys = mode.keys; schema = db.schema; table = table; params = params } in
      let w = does limit mode params db text at (Values terms width) table there tally after h in
      let wrote = writes task (Values terms width) db.trees w.0 uncounted w.1 in
      let step = applies task db.trees w.0.trees wrote.0 wrote.2 in
      let one = one_row task db.trees w.0.trees wrote.0 row (wrote.1.1 ∙ given) cast step in
      record {
        schema = ap (λ (d : Database). d.schema) w.2;
        rows = ap (λ (d : Database). d.trees table.tree) w.2 ∙ one.0;
        fresh = one.1;
        others = subst (λ (d : Database). AllByRecursion (λ t. t.tree ≢ table.tree → d.trees t.tree ≡ db.trees t.tree) db.schema.tables) (sym w.2) step.tables;
      }
