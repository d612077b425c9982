-- What the INSERTs of the desk do.
use Rattle.std.proofs.Common.{◌≡◌, ◌≢◌, ℕ, ℤ, pos, List, [], ◌∷◌, ◌++◌, ◌/◌, length, map, slice_get, Bool, true, false, cond, Option, Some, None, Ok, refl, sym, ap, subst, ◌∙◌}
use Rattle.std.specs.List.{AllByRecursion}
use Rattle.sqlite.specs.declared.types.Value.{Value}
use Rattle.sqlite.specs.declared.types.Value.TheVariants.{Null, Int}
use Rattle.sqlite.specs.Order.{Row}
use Rattle.sqlite.specs.Ops.{unary}
use Rattle.sqlite.specs.Kind.TheVariants.{Integer}
use Rattle.sqlite.specs.Term.{Term}
use Rattle.sqlite.specs.Table.{Table}
use Rattle.sqlite.specs.Schema.{Schema}
use Rattle.sqlite.specs.Tree.{Trees}
use Rattle.sqlite.specs.Cast.{cast, cast_row}
use Rattle.sqlite.specs.Command.TheVariants.{Insert}
use Rattle.sqlite.specs.Source.TheVariants.{Values}
use Rattle.sqlite.specs.Rows.{stamped, count_of, counter_in, sequence as sequence_of}
use Rattle.sqlite.specs.Rowids.TheVariants.{Chosen, Above}
use Rattle.sqlite.specs.Effect.{value_rows}
use Rattle.sqlite.specs.State.{State, mode_of, Writes, ExecutesInside}
use Rattle.sqlite.specs.Listing.{understood}
use Rattle.sqlite.specs.Given.{IsPlain}
use Rattle.sqlite.proofs.Callers.{command_of, statement_of, runs_as}
use Rattle.sqlite_tied.specs.Compute.{everything}
use Rattle.sqlite_rules.specs.Action.{works}
use Rattle.sqlite_schema.specs.declared.schema.Keys.TheVariants.{Enforced}
use Rattle.canary_tables_schema.specs.Layout.{Layout, desk_trees, sequence_at}
use Rattle.canary_tables_schema.specs.Schema.{schema_at, sequence}
use Rattle.canary_tables_schema.specs.Cells.{cells_of, whole_or_null}
use Rattle.canary_tables_schema.specs.Stores.{IsNumbered}
use Rattle.canary_tables_schema.specs.Adds.{AddsRow}
use Rattle.canary_tables_schema.proofs.Inserts.{inserts}
use Rattle.canary_tables_write.proofs.Appended.{appended, still_numbered}
use Rattle.canary_tables_write.proofs.Counted.{CountsRow, inserts as counts}
use Rattle.canary_tables_write.proofs.Idle.{AreIdle, idle}
use Rattle.canary_tables_write.proofs.Spared.{Spares, Changed, all_apart, sequence_apart}

-- a text and NULL are stored as they are, and a whole number too

either : (b : Bool) (x : Value) → cond b x x ≡ x
either true x = refl
either false x = refl

pub cast_null : cast Integer Null ≡ Null
unfolding unary
cast_null = either _ Null

pub cast_whole : (n : ℤ) → cast Integer (Int n) ≡ Int n
unfolding unary
cast_whole n = either _ (Int n)

pub cast_maybe : (n : Option ℕ) → cast Integer (whole_or_null n) ≡ whole_or_null n
cast_maybe None = cast_null
cast_maybe (Some n) = cast_whole (pos n)

-- of all tables the ten

pub desk_spares : (at : Layout) (tree : ℕ) (old new : Trees) (schema : Schema) → schema ≡ schema_at at → AllByRecursion (λ t. t.tree ≢ tree → new t.tree ≡ old t.tree) schema.tables → Spares at tree old new
unfolding everything
desk_spares at tree old new schema is given =
    let h = subst (λ (s : Schema). AllByRecursion (λ t. t.tree ≢ tree → new t.tree ≡ old t.tree) s.tables) is given in
    (h.0, (h.1.0, (h.1.1.0, (h.1.1.1.0, (h.1.1.1.1.0, (h.1.1.1.1.1.0, (h.1.1.1.1.1.1.1.0, (h.1.1.1.1.1.1.1.1.0, (h.1.1.1.1.1.1.1.1.1.0, (h.1.1.1.1.1.1.1.1.1.1.0, tt))))))))))

-- but for the counts

but_counts : (tree counts : ℕ) (old new : Trees) (trees : List ℕ) → AllByRecursion (λ k. k ≢ counts) trees → AllByRecursion (λ k. k ≢ tree → k ≢ counts → new k ≡ old k) trees → AllByRecursion (λ k. k ≢ tree → new k ≡ old k) trees
but_counts tree counts old new [] apart h = tt
but_counts tree counts old new (k ∷ trees) apart h = (λ other. h.0 other apart.0, but_counts tree counts old new trees apart.1 h.1)

counted_spares : (at : Layout) (tree : ℕ) (old new : Trees) (schema : Schema) → schema ≡ schema_at at → AllByRecursion (λ t. t.tree ≢ tree → t.tree ≢ sequence_at at → new t.tree ≡ old t.tree) schema.tables → Spares at tree old new
unfolding everything
counted_spares at tree old new schema is given =
    let h = subst (λ (s : Schema). AllByRecursion (λ t. t.tree ≢ tree → t.tree ≢ sequence_at at → new t.tree ≡ old t.tree) s.tables) is given in
    but_counts tree (sequence_at at) old new (desk_trees at) (all_apart (sequence_at at) (desk_trees at) (sequence_apart at)) (h.0, (h.1.0, (h.1.1.0, (h.1.1.1.0, (h.1.1.1.1.0, (h.1.1.1.1.1.0, (h.1.1.1.1.1.1.1.0, (h.1.1.1.1.1.1.1.1.0, (h.1.1.1.1.1.1.1.1.1.0, (h.1.1.1.1.1.1.1.1.1.1.0, tt))))))))))

-- if places are counted

abbrev counters : Layout → Table
counters at = record sequence { tree = sequence_at at }

sequence_found : (at : Layout) → sequence_of (schema_at at) ≡ Some (counters at)
unfolding everything
sequence_found at = refl

pub idle_desk : (at : Layout) → AreIdle (schema_at at).tables
unfolding everything
idle_desk at = (tt, (tt, (((refl, refl), tt), (tt, (((refl, refl), tt), (tt, (tt, (tt, (tt, (((refl, refl), tt), (tt, tt)))))))))))

-- a text that inserts one row
module _ (at : Layout) (text : List ℕ) (place : ℕ) (terms : List Term) (width : ℕ) (table : Table) (params : Row) (is : command_of (understood (schema_at at) text) ≡ Insert place (Values terms width))
    (plain : IsPlain (understood (schema_at at) text)) (there : slice_get (schema_at at).tables place ≡ Some table) {R : Type 0} (cells : R → Row) (last : R)
    (given : value_rows (stamped table params) width (length terms / width) terms ≡ (Null ∷ cells last) ∷ []) (cast : cast_row table (Null ∷ cells last) ≡ Null ∷ cells last) (old new : State) (count : ℕ)
    (schema : old.now.schema ≡ schema_at at) (h : ExecutesInside 0 text params old new (Ok count)) (rows : List R) (up : IsNumbered (old.now.trees table.tree)) (stored : cells_of (old.now.trees table.tree) ≡ map cells rows) where
  ran : Writes old new None (Insert place (Values terms width)) (statement_of text (understood (schema_at at) text)) params count
  ran = runs_as text params old new (schema_at at) schema (Insert place (Values terms width)) is plain count h.0

  stands : slice_get old.now.schema.tables place ≡ Some table
  stands = ap (λ (s : Schema). slice_get s.tables place) schema ∙ there

  adds : table.is_counted ≡ false → AddsRow table.tree (cells last) old.now new.now
  adds uncounted = inserts old.step_limit (mode_of old) params old.now (statement_of text (understood (schema_at at) text)) place terms width table (cells last) stands uncounted given cast ran.tally new.now ran.changed

  -- into a table of which SQLite chooses the rowids
  pub inserted : table.is_counted ≡ false → Changed at table.tree cells (rows ++ last ∷ []) old new
  inserted uncounted =
      let a = adds uncounted in
      record {
        live = h.1.mode;
        schema = a.schema;
        spares = desk_spares at table.tree old.now.trees new.now.trees old.now.schema schema a.others;
        numbered = still_numbered Chosen (cells last) (old.now.trees table.tree) (new.now.trees table.tree) up a.rows;
        stored = appended Chosen (cells last) (old.now.trees table.tree) (new.now.trees table.tree) up a.rows cells rows last refl stored;
      }

  adds_place : table.is_counted ≡ true → table.tree ≢ sequence_at at → CountsRow table (counters at) (cells last) old.now new.now
  adds_place counted apart =
      counts old.step_limit (mode_of old) params old.now (statement_of text (understood (schema_at at) text)) place terms width table (counters at) (cells last) stands counted (ap sequence_of schema ∙ sequence_found at) apart
      (subst (λ s. (olds news : List Row) → works s Enforced 0 (sequence_at at) olds news ≡ []) (sym schema) (idle (schema_at at) (idle_desk at) (sequence_at at))) given cast ran.tally new.now ran.changed

  -- into one whose places are counted
  pub counted_in : table.is_counted ≡ true → table.tree ≢ sequence_at at → Changed at table.tree cells (rows ++ last ∷ []) old new
  counted_in counted apart =
      let a = adds_place counted apart in
      let rowids = Above (count_of (counter_in old.now.trees table (counters at))) in
      record {
        live = h.1.mode;
        schema = a.schema;
        spares = counted_spares at table.tree old.now.trees new.now.trees old.now.schema schema a.others;
        numbered = still_numbered rowids (cells last) (old.now.trees table.tree) (new.now.trees table.tree) up a.rows;
        stored = appended rowids (cells last) (old.now.trees table.tree) (new.now.trees table.tree) up a.rows cells rows last refl stored;
      }
