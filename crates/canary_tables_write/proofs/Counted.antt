-- What an INSERT of one row into a table with AUTOINCREMENT does.
use Rattle.std.proofs.Common.{◌≡◌, ◌≢◌, ℤ, ℕ, ◌/◌, ◌&&◌, not, List, [], ◌∷◌, length, fold, slice_get, Bool, true, false, if◌then◌else◌, Option, Some, None, Ok, Result, MatchBool, refl, sym, ap, subst, ◌∙◌}
use Rattle.std.specs.List.{AllByRecursion}
use Rattle.std.specs.Ordering.{is_lt, int_cmp}
use Rattle.sqlite.specs.declared.types.Value.TheVariants.{Null, Int}
use Rattle.sqlite.specs.Order.{Row}
use Rattle.sqlite.specs.Term.{Term}
use Rattle.sqlite.specs.Table.{Table}
use Rattle.sqlite.specs.Source.{Source}
use Rattle.sqlite.specs.Source.TheVariants.{Values}
use Rattle.sqlite.specs.Command.TheVariants.{Insert}
use Rattle.sqlite.specs.declared.error.Error.{Error}
use Rattle.sqlite.specs.Edit.{Edit, edit_of, with_rowid, next_rowid, at_least, is_taken, taken_by, Applies}
use Rattle.sqlite.specs.Cast.{cast_row}
use Rattle.sqlite.specs.Rowids.TheVariants.{Chosen, Above}
use Rattle.sqlite.specs.Does.{Tally, Does}
use Rattle.sqlite.specs.Rows.{Written, Task, stamped, Inserts, Counter, Counts, CountsIn, counting, counter_in, count_of, sequence}
use Rattle.sqlite.specs.Tree.{Trees, put_row}
use Rattle.sqlite.specs.declared.run.Mode.{Mode}
use Rattle.sqlite.specs.Effect.{Database, IsSource, value_rows}
use Rattle.sqlite.proofs.Callers.{one_step}
use Rattle.sqlite_rules.specs.Action.{works, Writes}
use Rattle.sqlite_rules.proofs.ListLemmas.{all_has, all_from, has_got}
use Rattle.canary_tables_schema.proofs.Went.{went, same_value}
use Rattle.canary_tables_schema.proofs.Inserts.{does, no_works}

-- the row under the next place: one above the last of the table, or one above the count, whichever is higher
abbrev pub counted_row : ℤ → Row → List Row → Row
counted_row top row rows = Int (at_least (Above top) (next_rowid rows)) ∷ row

-- the table has one row more, the count may have changed, and the others are as they were
pub record CountsRow (table counters : Table) (row : Row) (old new : Database) : Type 0 where
  pub schema : new.schema ≡ old.schema
  pub rows : new.trees table.tree ≡ put_row (counted_row (count_of (counter_in old.trees table counters)) row (old.trees table.tree)) (old.trees table.tree)
  pub fresh : is_taken (old.trees table.tree) (counted_row (count_of (counter_in old.trees table counters)) row (old.trees table.tree)) ≡ false
  pub others : AllByRecursion (λ t. t.tree ≢ table.tree → t.tree ≢ counters.tree → new.trees t.tree ≡ old.trees t.tree) old.schema.tables

and_left : (a b : Bool) → (a && b) ≡ true → a ≡ true
and_left true b e = refl
and_left false b e = e

not_false : (a : Bool) → not a ≡ true → a ≡ false
not_false false e = refl
not_false true e = absurd cc

-- if no key refers to the counters, the count changes their tree alone
module _ (task : Task) (counters : Table) (is : sequence task.schema ≡ Some counters) (counted : task.table.is_counted ≡ true)
    (quiet : (olds news : List Row) → works task.schema task.keys 0 counters.tree olds news ≡ []) where
  counter_is : (db : Trees) (counter : Option Row) → Counter task db (Ok counter) → counter ≡ counter_in db task.table counters
  counter_is db counter h = same_value (rw (counted, is) at h)

  abbrev Spares : Trees → Trees → Type 0
  Spares db next = (t : ℕ) → t ≢ counters.tree → AllByRecursion (λ u. u.tree ≡ t → next t ≡ db t) task.schema.tables

  spared : (db next : Trees) (edit : Edit) → edit.table ≡ counters → Applies task.schema task.keys db edit next → Spares db next
  spared db next edit at h t apart =
      all_from _ task.schema.tables (λ u known e. subst (λ s. s ≢ counters.tree → next s ≡ db s) e (λ other. all_has _ task.schema.tables u h.tables known (subst (λ (x : Table). u.tree ≢ x.tree) (sym at) other)) apart)

  by_step : (db next : Trees) (edit : Edit) → edit.table ≡ counters → Writes task.schema task.keys db edit (Ok next) → Spares db next
  by_step db next edit at h = spared db next edit at (one_step task.schema task.keys db next edit (subst (λ (x : Table). works task.schema task.keys 0 x.tree (taken_by db edit) edit.news ≡ []) (sym at) (quiet _ _)) h)

  counts_in : (db next : Trees) (top : ℤ) (counter : Option Row) → Writes task.schema task.keys db (counting db task.table counters top counter) (Ok next) → Spares db next
  counts_in db next top None h = by_step db next _ refl h
  counts_in db next top (Some c) h = by_step db next _ refl h

  nothing_spared : (db next : Trees) → next ≡ db → Spares db next
  nothing_spared db next same t apart = all_from _ task.schema.tables (λ u known e. ap (λ (f : Trees). f t) same)

  counts : (db next : Trees) (counter : Option Row) (top : ℤ) → Counts task db counter top (Ok next) → Spares db next
  counts db next counter top h = go (is_lt (int_cmp (count_of counter) top)) (rw counted at h)
    where
      go : (b : Bool) → MatchBool b (CountsIn task db counter top (sequence task.schema) (Ok next)) (◌≡◌ {A = Result Trees (Option Error)} (Ok next) (Ok db)) → Spares db next
      go true h = counts_in db next top counter (rw is at h)
      go false h = nothing_spared db next (same_value h)

  pub writes : (from : Source) (db : Trees) (w : Written) → Inserts task from db (Ok w)
      → (rows : List Row) × IsSource (record { schema = task.schema; trees = db }) (stamped task.table task.params) from rows × (mid : Trees)
      × Writes task.schema task.keys db (edit_of db task.table [] (Above (count_of (counter_in db task.table counters))) 0 rows) (Ok mid) × Spares mid w.trees
  writes from db w h =
      let source = went h in
      let counter = went source.2 in
      let written = went counter.2 in
      let last = went written.2 in
      let c = counter_is db counter.0 counter.1 in
      let spares = counts written.0 last.0 counter.0 _ last.1 in
      let edit = subst (λ b. Writes task.schema task.keys db (edit_of db task.table [] (if b then Above (count_of counter.0) else Chosen) 0 source.0) (Ok written.0)) counted written.1 in (
        source.0,
        source.1,
        written.0,
        subst (λ o. Writes task.schema task.keys db (edit_of db task.table [] (Above (count_of o)) 0 source.0) (Ok written.0)) c edit,
        subst (λ (t : Trees). Spares written.0 t) (sym (ap (λ (it : Written). it.trees) (same_value last.2))) spares,
      )

module _ (limit : Option ℕ) (mode : Mode) (params : Row) (db : Database) (text : List ℕ) (at : ℕ) (terms : List Term) (width : ℕ) (table counters : Table) (row : Row)
    (there : slice_get db.schema.tables at ≡ Some table) (counted : table.is_counted ≡ true) (is : sequence db.schema ≡ Some counters) (apart : table.tree ≢ counters.tree)
    (quiet : (olds news : List Row) → works db.schema mode.keys 0 counters.tree olds news ≡ [])
    (given : value_rows (stamped table params) width (length terms / width) terms ≡ (Null ∷ row) ∷ []) (cast : cast_row table (Null ∷ row) ≡ Null ∷ row) where
  pub inserts : (tally : Tally) (after : Database) → Does limit mode params db text None (Insert at (Values terms width)) (Ok (tally, after)) → CountsRow table counters row db after
  inserts tally after h =
      let task : Task = record { limit = limit; keys = mode.keys; schema = db.schema; table = table; params = params } in
      let w = does limit mode params db text at (Values terms width) table there tally after h in
      let wrote = writes task counters is counted quiet (Values terms width) db.trees w.0 w.1 in
      let top = count_of (counter_in db.trees table counters) in
      let mid = wrote.2 in
      let edit = edit_of db.trees table [] (Above top) 0 wrote.0 in
      let step = one_step db.schema mode.keys db.trees mid edit (no_works db.schema mode.keys table.tree edit.news) wrote.3 in
      let rows = db.trees table.tree in
      let new = counted_row top row rows in
      let news : edit.news ≡ new ∷ [] = ap (λ all. (edit_of db.trees table [] (Above top) 0 all).news) (wrote.1.1 ∙ given) ∙ ap (λ r. with_rowid (Above top) rows r ∷ []) cast in
      let put : mid table.tree ≡ put_row new rows = step.rows ∙ ap (λ all. fold (λ xs r. put_row r xs) rows all) news in
      let known = has_got db.schema.tables at table there in
      record {
        schema = ap (λ (d : Database). d.schema) w.2;
        rows = ap (λ (d : Database). d.trees table.tree) w.2 ∙ all_has _ db.schema.tables table (wrote.4 table.tree apart) known refl ∙ put;
        fresh = not_false _ (and_left _ _ (rw news at step.fresh));
        others = all_from _ db.schema.tables (λ t h other away. ap (λ (d : Database). d.trees t.tree) w.2 ∙ all_has _ db.schema.tables t (wrote.4 t.tree away) h refl ∙ all_has _ db.schema.tables t step.tables h other);
      }
