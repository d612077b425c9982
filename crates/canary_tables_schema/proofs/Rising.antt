-- What a store that is opened anew shows: the same database, and the rows of each table in the order of their rowids.
use Rattle.std.proofs.Common.{◌≡◌, ◌≤◌, ◌↔◌, ℕ, Bool, List, Ok, Err, Result, IfOk, IfErr, IsTrue, sym, ap, ap₂, subst, ◌∙◌, arith}
use Rattle.std.specs.List.{AllByRecursion}
use Rattle.sqlite.specs.Schema.{Schema}
use Rattle.sqlite.specs.Table.{Table}
use Rattle.sqlite.specs.Effect.{Database, IsDatabase}
use Rattle.sqlite.specs.State.{State, HasCleanDisk, Opens, IsLive}
use Rattle.sqlite.specs.Held.{Held, state}
use Rattle.sqlite_trees.specs.declared.store.Store.{Ghosts}
use Rattle.sqlite_trees.specs.Tree.{Trees, IsTable}
use Rattle.sqlite_trees.specs.View.{View, IsClean, doubt, IsOrdered, IsShaped, IsRolledBack, IsQuiet}
use Rattle.sqlite_trees.specs.Objects.{catalog_tree, IsListed}
use Rattle.sqlite_catalog.specs.Listing.{Lists}
use Rattle.sqlite_catalog.proofs.LayoutLemmas.{table_shape}
use Rattle.sqlite_catalog.proofs.ReadLemmas.{lists_once}
use Rattle.sqlite_rules.proofs.ListLemmas.{all_from}
use Rattle.canary_tables_schema.specs.Layout.{Layout}
use Rattle.canary_tables_schema.specs.Schema.{schema_at}
use Rattle.canary_tables_schema.specs.Cells.{tally_tree}
use Rattle.canary_tables_schema.specs.Formed.{AreWhole, HasWholeTallies, HasRisingTables, IsRising}
use Rattle.canary_tables_schema.specs.Listed.{ListsTally}
use Rattle.canary_tables_schema.specs.Numbered.{IsOpenedAnew, IsLeft}
use Rattle.canary_tables_schema.specs.Stores.{AreNumbered, IsNumbered, IsUsable}

-- each table of the schema has its rows in order
abbrev AreRisen : Trees → List Table → Type 0
AreRisen trees = AllByRecursion (λ t. IsNumbered (trees t.tree))

risen : (v : View) (schema : Schema) → IsOrdered v.shape v.trees → IsListed (v.trees catalog_tree) v.shape v.reals → Lists (v.trees catalog_tree) schema → AreRisen v.trees schema.tables
risen v schema ordered listed lists =
    let rising : IsTable (v.trees catalog_tree) = (subst (λ s. IsShaped s (v.trees catalog_tree)) listed.itself.0 (ordered catalog_tree)).0 in
    all_from _ schema.tables (λ t h. subst (λ s. IsShaped s (v.trees t.tree)) (table_shape listed rising lists.listed t h).0 (ordered t.tree))

ten : (at : Layout) (trees : Trees) → AreRisen trees (schema_at at).tables → AreNumbered at trees
ten at trees h = (h.0, (h.1.0, (h.1.1.0, (h.1.1.1.0, (h.1.1.1.1.0, (h.1.1.1.1.1.0, (h.1.1.1.1.1.1.1.0, (h.1.1.1.1.1.1.1.1.0, (h.1.1.1.1.1.1.1.1.1.0, (h.1.1.1.1.1.1.1.1.1.1.0, tt))))))))))

of_desk : (v : View) (schema : Schema) → IsOrdered v.shape v.trees → IsListed (v.trees catalog_tree) v.shape v.reals → Lists (v.trees catalog_tree) schema → (at : Layout) → schema ≡ schema_at at → AreNumbered at v.trees
of_desk v schema ordered listed lists at desk = ten at v.trees (subst (λ (s : Schema). AreRisen v.trees s.tables) desk (risen v schema ordered listed lists))

-- trees list one database
one_database : (a b : Database) → b.trees ≡ a.trees → IsDatabase a → IsDatabase b → b ≡ a
one_database a b same old new =
    let listed : Lists (a.trees catalog_tree) b.schema = subst (λ (t : Trees). Lists (t catalog_tree) b.schema) same new.lists in
    ap₂ (λ (s : Schema) (t : Trees). record { schema = s; trees = t }) (lists_once (a.trees catalog_tree) b.schema a.schema listed old.lists) same

-- what the store of a connection shows once it is taken out
pub taken : {S : Type 0} (g : Ghosts S) (old : Held S) (mid : S) → IsRolledBack (g.view old.store) (g.view mid) → doubt (g.view old.store).is_clean ≤ doubt (g.view mid).is_clean
    → (IsTrue (state g old).is_open → (state g old).now ≡ (state g old).committed) → IsLeft (state g old) (g.view mid)
taken g old mid undone falls settled clean is_open =
    let was = (undone.kept clean).was_open is_open in
    (record { clean = omega (arith, falls, clean); is_open = was }, (undone.undone is_open).0 ∙ sym (ap (λ (d : Database). d.trees) (settled was)))

-- a connection that is opened over a store that was taken out of another one
module _ {S : Type 0} (g : Ghosts S) (old : State) (mid : S) (left : IsLeft old (g.view mid)) (is_open : IsClean (g.view mid) → IsTrue (g.view mid).is_open) where
  opened : (live : IsLive old) (ordered : IsClean (g.view mid) → IsOrdered (g.view mid).shape (g.view mid).trees)
      (listed : IsClean (g.view mid) → IsListed ((g.view mid).trees catalog_tree) (g.view mid).shape (g.view mid).reals)
      (new : Held S) → doubt (g.view mid).is_clean ≤ doubt (state g new).is_clean → (HasCleanDisk (state g new) → (state g new).now.trees ≡ (g.view mid).trees)
      → (HasCleanDisk (state g new) → Opens (state g new) × IsLive (state g new)) → IsUsable (state g new) → IsOpenedAnew old (state g new)
  opened live ordered listed new falls trees opens usable =
      let clean : IsClean (g.view mid) = omega (arith, falls, usable.clean) in
      let was = left clean (is_open clean) in
      let is = trees usable.clean in
      let sound = ((opens usable.clean).1 usable.is_open).0 in
      let listing : Lists ((g.view mid).trees catalog_tree) (state g new).now.schema = subst (λ (t : Trees). Lists (t catalog_tree) (state g new).now.schema) is sound.lists in
      record {
        was = was.0;
        same = one_database old.now (state g new).now (is ∙ was.1) (live was.0.is_open).0 sound;
        numbered = λ at desk. subst (AreNumbered at) (sym is) (of_desk (g.view mid) (state g new).now.schema (ordered clean) (listed clean) listing at desk);
      }

  risen_now : (ordered : IsClean (g.view mid) → IsOrdered (g.view mid).shape (g.view mid).trees) (listed : IsClean (g.view mid) → IsListed ((g.view mid).trees catalog_tree) (g.view mid).shape (g.view mid).reals)
      (new : Held S) → doubt (g.view mid).is_clean ≤ doubt (state g new).is_clean → (HasCleanDisk (state g new) → (state g new).now.trees ≡ (g.view mid).trees)
      → (HasCleanDisk (state g new) → Opens (state g new) × IsLive (state g new)) → IsUsable (state g new) → HasRisingTables (state g new).now
  risen_now ordered listed new falls trees opens usable =
      let clean : IsClean (g.view mid) = omega (arith, falls, usable.clean) in
      let is = trees usable.clean in
      let sound = ((opens usable.clean).1 usable.is_open).0 in
      let listing : Lists ((g.view mid).trees catalog_tree) (state g new).now.schema = subst (λ (t : Trees). Lists (t catalog_tree) (state g new).now.schema) is sound.lists in
      subst (λ (t : Trees). AreRisen t (state g new).now.schema.tables) (sym is) (risen (g.view mid) (state g new).now.schema (ordered clean) (listed clean) listing)

  pub all_risen : (ordered : IsClean (g.view mid) → IsOrdered (g.view mid).shape (g.view mid).trees) (listed : IsClean (g.view mid) → IsListed ((g.view mid).trees catalog_tree) (g.view mid).shape (g.view mid).reals)
      {F : Type 0} (r : Result (Held S × Bool) F) → IfOk r (λ p. doubt (g.view mid).is_clean ≤ doubt (state g p.0).is_clean) → IfOk r (λ p. HasCleanDisk (state g p.0) → (state g p.0).now.trees ≡ (g.view mid).trees)
      → IfOk r (λ p. HasCleanDisk (state g p.0) → Opens (state g p.0) × IsLive (state g p.0)) → IfOk r (λ p. IsUsable (state g p.0) → HasRisingTables (state g p.0).now)
  all_risen ordered listed (Ok p) falls trees opens = risen_now ordered listed p.0 falls trees opens
  all_risen ordered listed (Err e) falls trees opens = tt

  pub all_opened : {F : Type 0} (live : IsLive old) (ordered : IsClean (g.view mid) → IsOrdered (g.view mid).shape (g.view mid).trees)
      (listed : IsClean (g.view mid) → IsListed ((g.view mid).trees catalog_tree) (g.view mid).shape (g.view mid).reals)
      (r : Result (Held S × Bool) F) → IfOk r (λ p. doubt (g.view mid).is_clean ≤ doubt (state g p.0).is_clean) → IfOk r (λ p. HasCleanDisk (state g p.0) → (state g p.0).now.trees ≡ (g.view mid).trees)
      → IfOk r (λ p. HasCleanDisk (state g p.0) → Opens (state g p.0) × IsLive (state g p.0)) → IfOk r (λ p. IsUsable (state g p.0) → IsOpenedAnew old (state g p.0))
  all_opened live ordered listed (Ok p) falls trees opens = opened live ordered listed p.0 falls trees opens
  all_opened live ordered listed (Err e) falls trees opens = tt

  pub all_left : {T F : Type 0} (r : Result T (F × S)) → IfErr r (λ e. IsQuiet g.view g.faults g.recovers g.is_shielded mid e.1)
      → IfErr r (λ e. IsClean (g.view e.1) → IsTrue (g.view e.1).is_open → (g.view e.1).trees ≡ (g.view mid).trees) → IfErr r (λ e. IsLeft old (g.view e.1))
  all_left (Ok p) quiet same = tt
  all_left (Err e) quiet same = λ clean alive.
      let falls = quiet.clean in
      let before : IsClean (g.view mid) = omega (arith, falls, clean) in
      let was = left before (is_open before) in
      (was.0, same clean alive ∙ was.1)

-- what was found in a store holds of a connection over it, which shows a database of the same schema
pub all_whole : {S F : Type 0} (g : Ghosts S) (old : State) (tally : ℕ) (trees : Trees) → tally ≡ tally_tree old.now.schema → (r : Result (Held S × Bool) F) → IfOk r (λ p. HasCleanDisk (state g p.0) → (state g p.0).now.trees ≡ trees)
    → IfOk r (λ p. HasCleanDisk (state g p.0) → IsTrue p.1 ↔ AreWhole tally trees) → IfOk r (λ p. IsUsable (state g p.0) → IsOpenedAnew old (state g p.0))
    → IfOk r (λ p. IsUsable (state g p.0) → IsTrue p.1 ↔ HasWholeTallies (state g p.0).now)
all_whole g old tally trees is (Ok p) same whole opened = λ usable.
    let number : tally ≡ tally_tree (state g p.0).now.schema = is ∙ ap (λ (d : Database). tally_tree d.schema) (sym (opened usable).same) in
    subst (λ (n : ℕ). IsTrue p.1 ↔ AreWhole n (state g p.0).now.trees) number (subst (λ (t : Trees). IsTrue p.1 ↔ AreWhole tally t) (sym (same usable.clean)) (whole usable.clean))
all_whole g old tally trees is (Err e) same whole opened = tt

-- a connection that is opened over a store which was just opened
module _ {S : Type 0} (g : Ghosts S) (store : S) (new : Held S) (falls : doubt (g.view store).is_clean ≤ doubt (state g new).is_clean)
    (trees : HasCleanDisk (state g new) → (state g new).now.trees ≡ (g.view store).trees) (opens : HasCleanDisk (state g new) → Opens (state g new) × IsLive (state g new)) where
  -- it shows the schema that the store lists
  shown : IsUsable (state g new) → Lists ((g.view store).trees catalog_tree) (state g new).now.schema
  shown usable = subst (λ (t : Trees). Lists (t catalog_tree) (state g new).now.schema) (trees usable.clean) ((opens usable.clean).1 usable.is_open).0.lists

  pub rising_first : (IsClean (g.view store) → IsOrdered (g.view store).shape (g.view store).trees) → (IsClean (g.view store) → IsListed ((g.view store).trees catalog_tree) (g.view store).shape (g.view store).reals)
      → IsUsable (state g new) → IsRising (state g new).now
  rising_first ordered listed usable =
      let clean : IsClean (g.view store) = omega (arith, falls, usable.clean) in
      λ at desk. subst (AreNumbered at) (sym (trees usable.clean)) (of_desk (g.view store) (state g new).now.schema (ordered clean) (listed clean) (shown usable) at desk)

  pub whole_first : (tally : ℕ) (is_whole : Bool) → (IsClean (g.view store) → ListsTally (g.view store).trees tally) → (HasCleanDisk (state g new) → IsTrue is_whole ↔ AreWhole tally (g.view store).trees)
      → IsUsable (state g new) → IsTrue is_whole ↔ HasWholeTallies (state g new).now
  whole_first tally is_whole lists whole usable =
      let clean : IsClean (g.view store) = omega (arith, falls, usable.clean) in
      let found : ListsTally (g.view store).trees tally = lists clean in
      let number : tally ≡ tally_tree (state g new).now.schema = found.2 ∙ ap tally_tree (lists_once ((g.view store).trees catalog_tree) found.0 (state g new).now.schema found.1 (shown usable)) in
      subst (λ (n : ℕ). IsTrue is_whole ↔ AreWhole n (state g new).now.trees) number (subst (λ (t : Trees). IsTrue is_whole ↔ AreWhole tally t) (sym (trees usable.clean)) (whole usable.clean))
