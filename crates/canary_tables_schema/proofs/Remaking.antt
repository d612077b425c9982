-- What a statement on the schema does to the trees.
use Rattle.std.proofs.Common.{◌⊎◌, ◌≢◌, inl, inr, ◌≡◌, ◌==◌, ◌&&◌, ◌||◌, ℕ, Bool, true, false, List, [], ◌∷◌, ◌++◌, Option, None, Some, Ok, Err, Result, OnOk, IsTrue, MatchBool, slice_get, refl, sym, ap, subst, ◌∙◌, if◌then◌else◌}
use Rattle.std.proofs.lemmas.Bool.Decides.{eqb_tells}
use Rattle.std.specs.List.{AllByRecursion, list_any, list_all}
use Rattle.sqlite.specs.Order.{Row}
use Rattle.sqlite.specs.Command.TheVariants.{CreateTable, CreateIndex, DropTable, DropIndex}
use Rattle.sqlite.specs.Schema.{Schema}
use Rattle.sqlite.specs.Table.{Table}
use Rattle.sqlite.specs.Tree.{Trees}
use Rattle.sqlite_schema.specs.declared.schema.Index.{Index}
use Rattle.sqlite_schema.specs.declared.schema.Keys.TheVariants.{Enforced}
use Rattle.sqlite_catalog.specs.Change.{created, indexed, next_tree, without_table, without_index, KeepsRows}
use Rattle.sqlite.specs.Effect.{Database}
use Rattle.sqlite.specs.Does.{Tally, Empties, Uncounts, UncountsIn, is_acted_on, lacks_sequence}
use Rattle.sqlite.specs.Rows.{Task, sequence}
use Rattle.sqlite.specs.State.{State, mode_of, Writes, ExecutesInside}
use Rattle.sqlite.specs.declared.error.Error.{Error}
use Rattle.sqlite.proofs.Callers.{runs_as, statement_of}
use Rattle.sqlite.specs.Listing.{understood}
use Rattle.canary_tables_schema.proofs.Went.{went, same_value}
use Rattle.canary_tables_schema.specs.Remakes.{are_among, AreKept, AreEmpty, IsRemade, DropsTable, DropsIndex, AddsTable, AddsIndex}

-- of the tables' trees some

pub or_cases : (a b : Bool) → (a || b) ≡ true → (a ≡ true) ⊎ (b ≡ true)
or_cases true b h = inl refl
or_cases false b h = inr h

pub and_first : (a b : Bool) → (a && b) ≡ true → a ≡ true
and_first true b h = refl
and_first false b h = h

pub and_second : (a b : Bool) → (a && b) ≡ true → b ≡ true
and_second true b h = h
and_second false b h = absurd cc

pub is_equal : (a b : ℕ) → (a == b) ≡ true → a ≡ b
is_equal a b h = by_cases (eqb_tells a b)
  where
    by_cases : ((a == b) ≡ true) × (a ≡ b) ⊎ ((a == b) ≡ false) × (a ≢ b) → a ≡ b
    by_cases (inl same) = same.1
    by_cases (inr other) = absurd (let e = sym h ∙ other.0 in cc)

one_of : (k : ℕ) (tables : List Table) (old new : Trees) → list_any (λ t. t.tree == k) tables ≡ true → KeepsRows tables old new → new k ≡ old k
one_of k [] old new h rows = absurd cc
one_of k (t ∷ tables) old new h rows = found (λ later. one_of k tables old new later rows.1) (or_cases (t.tree == k) _ h)
  where
    found : (list_any (λ t. t.tree == k) tables ≡ true → new k ≡ old k) → ((t.tree == k) ≡ true) ⊎ (list_any (λ t. t.tree == k) tables ≡ true) → new k ≡ old k
    found more (inl here) = subst (λ n. new n ≡ old n) (is_equal t.tree k here) rows.0
    found more (inr later) = more later

pub picked : (trees : List ℕ) (tables : List Table) (old new : Trees) → are_among trees tables ≡ true → KeepsRows tables old new → AreKept trees old new
picked [] tables old new h rows = tt
picked (k ∷ trees) tables old new h rows = (one_of k tables old new (and_first _ _ h) rows, picked trees tables old new (and_second _ _ h) rows)

-- one statement

remade : (next : Schema) (kept empty : List ℕ) (tables : List Table) (old new : State) (after : Database) → IsTrue new.in_transaction → new.now ≡ after → after.schema ≡ next → are_among kept tables ≡ true
    → KeepsRows tables old.now.trees after.trees → AreEmpty empty after.trees → IsRemade next kept empty old new
remade next kept empty tables old new after live is schema among rows none = record {
  live = live;
  schema = ap (λ (d : Database). d.schema) is ∙ schema;
  stays = subst (λ (d : Database). AreKept kept old.now.trees d.trees) (sym is) (picked kept tables old.now.trees after.trees among rows);
  none = subst (λ (d : Database). AreEmpty empty d.trees) (sym is) none;
}

emptied : (task : Task) (db next : Trees) → is_acted_on task.schema task.keys task.table ≡ false → Empties task db (Ok next) → next ≡ db
emptied task db next idle h = same_value (rw idle at h)

uncounted : (task : Task) (db next : Trees) → task.table.is_counted ≡ false → Uncounts task db (Ok next) → next ≡ db
uncounted task db next none h = same_value (subst (λ b. UncountsIn task db (if b then sequence task.schema else None) (Ok next)) none h)

module _ (old new : State) (schema next : Schema) (kept : List ℕ) (text : List ℕ) (count : ℕ) (is : old.now.schema ≡ schema) (live : IsTrue new.in_transaction) where
  table_dropped : (d : DropsTable schema text next kept) → Writes old new None (DropTable d.at) (statement_of text (understood schema text)) [] count → IsRemade next kept [] old new
  table_dropped d w =
      let there = ap (λ (s : Schema). slice_get s.tables d.at) is ∙ d.there in
      let task : Task = record { limit = old.step_limit; keys = Enforced; schema = old.now.schema; table = d.table; params = [] } in
      let one = went (rw there at w.changed) in
      let two = went one.2 in
      let three = went two.2 in
      let four = went three.2 in
      let first : one.0 ≡ old.now.trees = emptied task old.now.trees one.0 (ap (λ s. is_acted_on s Enforced d.table) is ∙ d.idle) one.1 in
      let second : two.0 ≡ one.0 = uncounted task one.0 two.0 d.uncounted two.1 in
      let goal : without_table old.now.schema d.table.tree ≡ next = ap (λ s. without_table s d.table.tree) is ∙ d.next_is in
      remade next kept [] next.tables old new four.0 live (ap (λ (p : Tally × Database). p.1) (same_value four.2)) (four.1.0 ∙ goal) d.among
      (subst (λ trees. KeepsRows next.tables trees four.0.trees) (second ∙ first) (subst (λ (s : Schema). KeepsRows s.tables two.0 four.0.trees) goal four.1.1)) tt

  index_dropped : (d : DropsIndex schema text next kept) → Writes old new None (DropIndex d.at) (statement_of text (understood schema text)) [] count → IsRemade next kept [] old new
  index_dropped d w =
      let there = ap (λ (s : Schema). slice_get s.indexes d.at) is ∙ d.there in
      let one = went (rw there at w.changed) in
      let goal : without_index old.now.schema d.index.tree ≡ next = ap (λ s. without_index s d.index.tree) is ∙ d.next_is in
      remade next kept [] next.tables old new one.0 live (ap (λ (p : Tally × Database). p.1) (same_value one.2)) (one.1.0 ∙ goal) d.among
      (subst (λ (s : Schema). KeepsRows s.tables old.now.trees one.0.trees) goal one.1.1) tt

  table_added : (tree : ℕ) (d : AddsTable schema text next kept tree) → Writes old new None CreateTable (statement_of text (understood schema text)) [] count → IsRemade next kept (tree ∷ []) old new
  table_added tree d w =
      let all = went (subst (λ t. Writes old new None CreateTable t [] count) d.whole w).changed in
      let first = went all.1 in
      let made = first.1 in
      let same : made.table ≡ d.table = same_value (sym made.defined ∙ d.defined) in
      let goal : first.0.schema ≡ next = made.is ∙ ap (λ s. created s made.table) is ∙ ap (created schema) same ∙ d.next_is in
      let plain : lacks_sequence first.0.schema ≡ false = ap lacks_sequence (goal ∙ sym d.next_is) ∙ d.counted in
      let now : all.0 ≡ first.0 = same_value (rw plain at first.2) in
      remade next kept (tree ∷ []) schema.tables old new first.0 live (ap (λ (p : Tally × Database). p.1) (same_value all.2) ∙ now) goal d.among
      (subst (λ (s : Schema). KeepsRows s.tables old.now.trees first.0.trees) is made.others) (subst (λ n. first.0.trees n ≡ []) (ap next_tree is ∙ d.tree_is) made.empty, tt)

  index_added : (d : AddsIndex schema text next kept) → Writes old new None (CreateIndex d.at) (statement_of text (understood schema text)) [] count → IsRemade next kept [] old new
  index_added d w =
      let there = ap (λ (s : Schema). slice_get s.tables d.at) is ∙ d.there in
      let all = went (rw there at (subst (λ t. Writes old new None (CreateIndex d.at) t [] count) d.whole w).changed) in
      let same : all.1.index ≡ d.index = same_value (sym all.1.defined ∙ d.defined) in
      let goal : all.0.schema ≡ next = all.1.is ∙ ap (λ s. indexed s d.table all.1.index) is ∙ ap (indexed schema d.table) same ∙ d.next_is in
      remade next kept [] schema.tables old new all.0 live (ap (λ (p : Tally × Database). p.1) (same_value all.2)) goal d.among
      (subst (λ (s : Schema). KeepsRows s.tables old.now.trees all.0.trees) is all.1.rows) tt

module _ (old new : State) (schema next : Schema) (kept : List ℕ) (text : List ℕ) (is : old.now.schema ≡ schema) where
  pub drops_table : (d : DropsTable schema text next kept) (r : Result ℕ Error) → ExecutesInside 0 text [] old new r → OnOk r (IsRemade next kept [] old new)
  drops_table d (Err e) h = tt
  drops_table d (Ok count) h = table_dropped old new schema next kept text count is h.1.mode d (runs_as text [] old new schema is (DropTable d.at) d.command d.plain count h.0)

  pub drops_index : (d : DropsIndex schema text next kept) (r : Result ℕ Error) → ExecutesInside 0 text [] old new r → OnOk r (IsRemade next kept [] old new)
  drops_index d (Err e) h = tt
  drops_index d (Ok count) h = index_dropped old new schema next kept text count is h.1.mode d (runs_as text [] old new schema is (DropIndex d.at) d.command d.plain count h.0)

  pub adds_table : (tree : ℕ) (d : AddsTable schema text next kept tree) (r : Result ℕ Error) → ExecutesInside 0 text [] old new r → OnOk r (IsRemade next kept (tree ∷ []) old new)
  adds_table tree d (Err e) h = tt
  adds_table tree d (Ok count) h = table_added old new schema next kept text count is h.1.mode tree d (runs_as text [] old new schema is CreateTable d.command d.plain count h.0)

  pub adds_index : (d : AddsIndex schema text next kept) (r : Result ℕ Error) → ExecutesInside 0 text [] old new r → OnOk r (IsRemade next kept [] old new)
  adds_index d (Err e) h = tt
  adds_index d (Ok count) h = index_added old new schema next kept text count is h.1.mode d (runs_as text [] old new schema is (CreateIndex d.at) d.command d.plain count h.0)

-- one after another

pub both_kept : (kept : List ℕ) (a b c : Trees) → AreKept kept a b → AreKept kept b c → AreKept kept a c
both_kept [] a b c h k = tt
both_kept (n ∷ kept) a b c h k = (k.0 ∙ h.0, both_kept kept a b c h.1 k.1)

front : (kept more : List ℕ) (b c : Trees) → AreKept (kept ++ more) b c → AreKept kept b c
front [] more b c h = tt
front (n ∷ kept) more b c h = (h.0, front kept more b c h.1)

still_empty : (kept first second : List ℕ) (b c : Trees) → AreKept (kept ++ first) b c → AreEmpty first b → AreEmpty second c → AreEmpty (first ++ second) c
still_empty [] [] second b c h none new = new
still_empty [] (n ∷ first) second b c h none new = (h.0 ∙ none.0, still_empty [] first second b c h.1 none.1 new)
still_empty (k ∷ kept) first second b c h none new = still_empty kept first second b c h.1 none new

pub joined : (mid next : Schema) (kept first second : List ℕ) (a b c : State) → IsRemade mid kept first a b → IsRemade next (kept ++ first) second b c → IsRemade next kept (first ++ second) a c
joined mid next kept first second a b c h k = record {
  live = k.live;
  schema = k.schema;
  stays = both_kept kept a.now.trees b.now.trees c.now.trees h.stays (front kept first b.now.trees c.now.trees k.stays);
  none = still_empty kept first second b.now.trees c.now.trees k.stays h.none k.none;
}

pub joined_ok : {A : Type 0} (r : Result A Error) (mid next : Schema) (kept first second : List ℕ) (a b c : State) → IsRemade mid kept first a b → OnOk r (IsRemade next (kept ++ first) second b c) → OnOk r (IsRemade next kept (first ++ second) a c)
joined_ok (Err e) mid next kept first second a b c h k = tt
joined_ok (Ok x) mid next kept first second a b c h k = joined mid next kept first second a b c h k
