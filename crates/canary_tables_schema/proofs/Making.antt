-- What CREATE TABLE and CREATE INDEX do.
use Rattle.std.proofs.Common.{◌≡◌, true, false, Bool, ℕ, List, [], ◌∷◌, ◌++◌, None, Option, Ok, Err, Result, OnOk, MatchBool, refl, sym, ap, subst, subst₂, ◌∙◌, slice_get, if◌then◌else◌}
use Rattle.std.specs.List.{AllByRecursion}
use Rattle.sqlite.specs.Command.TheVariants.{CreateTable, CreateIndex}
use Rattle.sqlite.specs.Schema.{Schema}
use Rattle.sqlite.specs.Table.{Table}
use Rattle.sqlite.specs.Change.{created, next_tree, KeepsRows, indexed}
use Rattle.sqlite_catalog.specs.Calls.{CreatesTable}
use Rattle.sqlite_tied.specs.Compute.{everything}
use Rattle.sqlite.specs.Compile.{table_defined_by}
use Rattle.sqlite.specs.Does.{Tally, lacks_sequence, sequence_text}
use Rattle.sqlite.specs.Effect.{Database}
use Rattle.sqlite.specs.State.{State, Writes, ExecutesInside}
use Rattle.sqlite.specs.Tree.{Trees}
use Rattle.sqlite.specs.declared.error.Error.{Error}
use Rattle.sqlite.proofs.Callers.{runs_as}
use Rattle.canary_tables_schema.specs.Schema.{sequence}
use Rattle.canary_tables_schema.specs.Makes.{IsTableText, IsIndexText, IsAt}
use Rattle.canary_tables_schema.proofs.Went.{went, same_value}

abbrev AreEmpty : Schema → Trees → Type 0
AreEmpty schema trees = AllByRecursion (λ t. trees t.tree ≡ []) schema.tables

kept_empty : (tables : List Table) (old new : Trees) → KeepsRows tables old new → AllByRecursion (λ t. old t.tree ≡ []) tables → AllByRecursion (λ t. new t.tree ≡ []) tables
kept_empty [] old new h k = tt
kept_empty (t ∷ tables) old new h k = (h.0 ∙ k.0, kept_empty tables old new h.1 k.1)

one_more : (tables : List Table) (t : Table) (new : Trees) → AllByRecursion (λ t. new t.tree ≡ []) tables → new t.tree ≡ [] → AllByRecursion (λ t. new t.tree ≡ []) (tables ++ t ∷ [])
one_more [] t new h k = (k, tt)
one_more (u ∷ tables) t new h k = (h.0, one_more tables t new h.1 k)

table_made : (schema : Schema) (text : List ℕ) (old new : Trees) (after : Schema) (table : Table) → table_defined_by text ≡ Ok table → AreEmpty schema old → CreatesTable schema text old after new → (after ≡ created schema table) × AreEmpty (created schema table) new
table_made schema text old new after table is empty h =
    let both : Ok h.table ≡ Ok table = sym h.defined ∙ is in
    let same : h.table ≡ table = cc in
    (h.is ∙ ap (created schema) same, one_more schema.tables (record table { tree = next_tree schema }) new (kept_empty schema.tables old new h.others empty) h.empty)

sequence_is : table_defined_by sequence_text ≡ Ok sequence
unfolding everything
sequence_is = refl

counts_made : (b : Bool) (schema : Schema) (old after : Database) → old.schema ≡ schema → AreEmpty schema old.trees → MatchBool b (CreatesTable old.schema sequence_text old.trees after.schema after.trees) (◌≡◌ {A = Result Database (Option Error)} (Ok after) (Ok old))
    → (after.schema ≡ (if b then created schema sequence else schema)) × AreEmpty (if b then created schema sequence else schema) after.trees
counts_made true schema old after is empty h = table_made schema sequence_text old.trees after.trees after.schema sequence sequence_is empty (subst (λ s. CreatesTable s sequence_text old.trees after.schema after.trees) is h)
counts_made false schema old after is empty h =
    let same = same_value h in
    (ap (λ (d : Database). d.schema) same ∙ is, subst (λ (d : Database). AreEmpty schema d.trees) (sym same) empty)

by_table : (old new : State) (text : List ℕ) (schema next : Schema) (count : ℕ) → IsTableText schema text next → IsAt schema old → ExecutesInside 0 text [] old new (Ok count) → (new.now.schema ≡ next) × AreEmpty next new.now.trees
by_table old new text schema next count d at h =
    let w = subst (λ t. Writes old new None CreateTable t [] count) d.whole (runs_as text [] old new schema at.schema_is CreateTable d.command d.plain count h.0) in
    let all = went w.changed in
    let first = went all.1 in
    let made = table_made schema text old.now.trees first.0.trees first.0.schema d.table d.defined at.empty (subst (λ s. CreatesTable s text old.now.trees first.0.schema first.0.trees) at.schema_is first.1) in
    let counts = counts_made _ (created schema d.table) first.0 all.0 made.0 made.1 (subst (λ s. MatchBool (lacks_sequence s) (CreatesTable first.0.schema sequence_text first.0.trees all.0.schema all.0.trees) (◌≡◌ {A = Result Database (Option Error)} (Ok all.0) (Ok first.0))) made.0 first.2) in
    let now : new.now ≡ all.0 = ap (λ (p : Tally × Database). p.1) (same_value all.2) in
    (ap (λ (d : Database). d.schema) now ∙ counts.0 ∙ sym d.next_is, subst₂ (λ s (d : Database). AreEmpty s d.trees) (sym d.next_is) (sym now) counts.1)

by_index : (old new : State) (text : List ℕ) (schema next : Schema) (count : ℕ) → IsIndexText schema text next → IsAt schema old → ExecutesInside 0 text [] old new (Ok count) → (new.now.schema ≡ next) × AreEmpty next new.now.trees
by_index old new text schema next count d at h =
    let w = subst (λ t. Writes old new None (CreateIndex d.at) t [] count) d.whole (runs_as text [] old new schema at.schema_is (CreateIndex d.at) d.command d.plain count h.0) in
    let there = ap (λ (s : Schema). slice_get s.tables d.at) at.schema_is ∙ d.there in
    let all = went (rw there at w.changed) in
    let same : all.1.index ≡ d.index = same_value (sym all.1.defined ∙ d.defined) in
    let made : all.0.schema ≡ next = all.1.is ∙ ap (λ s. indexed s d.table all.1.index) at.schema_is ∙ ap (indexed schema d.table) same ∙ sym d.next_is in
    let rows = subst (λ (s : Schema). KeepsRows s.tables old.now.trees all.0.trees) at.schema_is all.1.rows in
    let now : new.now ≡ all.0 = ap (λ (p : Tally × Database). p.1) (same_value all.2) in
    let empty : AreEmpty (indexed schema d.table d.index) all.0.trees = kept_empty schema.tables old.now.trees all.0.trees rows at.empty in
    (ap (λ (d : Database). d.schema) now ∙ made, subst₂ (λ s (d : Database). AreEmpty s d.trees) (sym d.next_is) (sym now) empty)

pub table_added : (old new : State) (text : List ℕ) (r : Result ℕ Error) (schema next : Schema) → IsTableText schema text next → IsAt schema old → ExecutesInside 0 text [] old new r → OnOk r (IsAt next new)
table_added old new text (Err e) schema next d at h = tt
table_added old new text (Ok count) schema next d at h =
    let is = by_table old new text schema next count d at h in
    record { live = h.1.mode; schema_is = is.0; empty = is.1 }

pub index_added : (old new : State) (text : List ℕ) (r : Result ℕ Error) (schema next : Schema) → IsIndexText schema text next → IsAt schema old → ExecutesInside 0 text [] old new r → OnOk r (IsAt next new)
index_added old new text (Err e) schema next d at h = tt
index_added old new text (Ok count) schema next d at h =
    let is = by_index old new text schema next count d at h in
    record { live = h.1.mode; schema_is = is.0; empty = is.1 }
