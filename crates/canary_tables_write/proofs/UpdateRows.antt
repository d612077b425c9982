-- What an UPDATE of one row does.
use Rattle.std.proofs.Common.{◌≡◌, ◌≢◌, ℕ, List, [], ◌∷◌, map, filter, drop, slice_get, Option, Some, None, Ok, sym, ap, subst, ◌∙◌}
use Rattle.std.specs.List.{AllByRecursion}
use Rattle.std.specs.List.Sorted.{IsPermutation}
use Rattle.sqlite.specs.declared.types.Value.TheVariants.{Null}
use Rattle.sqlite.specs.Order.{Row, column}
use Rattle.sqlite.specs.Term.{Term}
use Rattle.sqlite.specs.Table.{Table}
use Rattle.sqlite.specs.Command.TheVariants.{Update}
use Rattle.sqlite.specs.Edit.{Edit, edit_of, taken_by, id_in}
use Rattle.sqlite.specs.Cast.{cast_row}
use Rattle.sqlite.specs.Rowids.TheVariants.{Given}
use Rattle.sqlite.specs.Does.{Tally, Does, AtPlace, OnRows}
use Rattle.sqlite.specs.Rows.{Written, Task, Updates}
use Rattle.sqlite.specs.Tree.{Trees, put_row, without_rowid}
use Rattle.sqlite.specs.declared.run.Mode.{Mode}
use Rattle.sqlite.specs.Effect.{Database, Answers}
use Rattle.sqlite.proofs.Callers.{one_step, one_permutation}
use Rattle.sqlite_rules.specs.Action.{works, Writes}
use Rattle.sqlite_rules.specs.Calls.{ids_of}
use Rattle.sqlite_schema.specs.declared.program.Program.{Program}
use Rattle.canary_tables_write.proofs.UpdateAnswer.{plain_query, plain_answer, passes, shows}
use Rattle.canary_tables_schema.proofs.Went.{went, same_value}

does : (limit : Option ℕ) (mode : Mode) (params : Row) (db : Database) (text : List ℕ) (at : ℕ) (q : Program) (table : Table) → slice_get db.schema.tables at ≡ Some table
    → (tally : Tally) (after : Database) → Does limit mode params db text None (Update at q) (Ok (tally, after))
    → (w : Written) × Updates (record { limit = limit; keys = mode.keys; schema = db.schema; table = table; params = params }) q params db.trees (Ok w) × (after ≡ record { schema = db.schema; trees = w.trees })
does limit mode params db text at q table there tally after h =
    let done = went (subst (λ o. AtPlace (λ t. OnRows (record { limit = limit; keys = mode.keys; schema = db.schema; table = t; params = params }) mode None (Update at q) db.trees) o (Ok (tally, after))) there h) in
    (done.0, done.1, ap (λ (p : Tally × Database). p.1) (same_value (went (went done.2).2).2))

edit_for : Task → Trees → List Row → Edit
edit_for task db rows = edit_of db task.table (ids_of rows) Given 1 rows

updated : (task : Task) (q : Program) (given : Row) (db : Trees) (w : Written) → Updates task q given db (Ok w)
    → (rows : List Row) × Answers (record { schema = task.schema; trees = db }) q given rows × Writes task.schema task.keys db (edit_for task db rows) (Ok w.trees)
unfolding edit_for
updated task q given db w h =
    let asked = went h in
    let wrote = went asked.2 in
    (asked.0, asked.1, subst (λ t. Writes task.schema task.keys db (edit_for task db asked.0) (Ok t)) (sym (ap (λ (it : Written). it.trees) (same_value wrote.2))) wrote.1)

one_row : (task : Task) (db next : Trees) (rows : List Row) (row new : Row) → rows ≡ row ∷ [] → cast_row task.table (drop 1 row) ≡ new
    → works task.schema task.keys 0 task.table.tree (taken_by db (edit_for task db (row ∷ []))) (new ∷ []) ≡ [] → Writes task.schema task.keys db (edit_for task db rows) (Ok next)
    → (next task.table.tree ≡ put_row new (without_rowid (id_in (column row 0)) (db task.table.tree))) × AllByRecursion (λ t. t.tree ≢ task.table.tree → next t.tree ≡ db t.tree) task.schema.tables
unfolding edit_for
one_row task db next rows row new is cast idle h =
    let wrote = subst (λ all. Writes task.schema task.keys db (edit_for task db all) (Ok next)) is h in
    let still : works task.schema task.keys 0 task.table.tree (taken_by db (edit_for task db (row ∷ []))) (edit_for task db (row ∷ [])).news ≡ [] =
    subst (λ r. works task.schema task.keys 0 task.table.tree (taken_by db (edit_for task db (row ∷ []))) (r ∷ []) ≡ []) (sym cast) idle in
    let step = one_step task.schema task.keys db next (edit_for task db (row ∷ [])) still wrote in
    (step.rows ∙ ap (λ r. put_row r (without_rowid (id_in (column row 0)) (db task.table.tree))) cast, step.tables)

module _ (limit : Option ℕ) (mode : Mode) (params : Row) (db : Database) (text : List ℕ) (at : ℕ) (tests shown : List Term) (table : Table) (old new : Row)
    (there : slice_get db.schema.tables at ≡ Some table) (found : filter (passes tests params) (db.trees table.tree) ≡ old ∷ []) (cast : cast_row table (drop 1 (shows shown params old)) ≡ new)
    (idle : works db.schema mode.keys 0 table.tree (taken_by db.trees (edit_of db.trees table (ids_of (shows shown params old ∷ [])) Given 1 (shows shown params old ∷ []))) (new ∷ []) ≡ []) where
  pub updates : (tally : Tally) (after : Database) → Does limit mode params db text None (Update at (record { lets = []; body = plain_query table.tree tests shown [] })) (Ok (tally, after))
      → (after.schema ≡ db.schema) × (after.trees table.tree ≡ put_row new (without_rowid (id_in (column (shows shown params old) 0)) (db.trees table.tree)))
      × AllByRecursion (λ t. t.tree ≢ table.tree → after.trees t.tree ≡ db.trees t.tree) db.schema.tables
  unfolding edit_for
  updates tally after h =
      let task : Task = record { limit = limit; keys = mode.keys; schema = db.schema; table = table; params = params } in
      let q : Program = record { lets = []; body = plain_query table.tree tests shown [] } in
      let w = does limit mode params db text at q table there tally after h in
      let u = updated task q params db.trees w.0 w.1 in
      let rows = one_permutation (shows shown params old) u.0 (subst (λ all. IsPermutation (map (shows shown params) all) u.0) found (plain_answer Null table.tree tests shown [] db.trees params u.0 (u.1.answer Null))) in
      let one = one_row task db.trees w.0.trees u.0 (shows shown params old) new rows cast idle u.2 in (
        ap (λ (d : Database). d.schema) w.2,
        ap (λ (d : Database). d.trees table.tree) w.2 ∙ one.0,
        subst (λ (d : Database). AllByRecursion (λ t. t.tree ≢ table.tree → d.trees t.tree ≡ db.trees t.tree) db.schema.tables) (sym w.2) one.1,
      )
