-- From the tables of the first schema to those of a desk.
use Rattle.std.proofs.Common.{◌≡◌, ◌&&◌, [], ◌∷◌, ◌++◌, ℕ, List, length, map, Bool, true, false, IsTrue, Ok, Err, Result, OnOk, refl, sym, ap, subst, ◌∙◌, arith}
use Rattle.std.specs.List.{AllByRecursion}
use Rattle.sqlite.specs.Order.{Row, column}
use Rattle.sqlite.specs.Schema.{Schema}
use Rattle.sqlite.specs.Table.{Table}
use Rattle.sqlite.specs.Tree.{Trees}
use Rattle.sqlite.specs.State.{State, HasCleanDisk}
use Rattle.sqlite.specs.Effect.{Database}
use Rattle.sqlite.specs.declared.error.Error.{Error}
use Rattle.canary_tables_rows.specs.Tables.{Tables}
use Rattle.canary_tables_schema.specs.Cells.{cells_of, meta_rows, tally_tree, integer}
use Rattle.canary_tables_schema.specs.First.{first_schema, HasFirstMeta}
use Rattle.canary_tables_schema.specs.Formed.{HasRisingTables, IsFormed, AreWhole, HasWholeTallies, HasRows}
use Rattle.canary_tables_schema.specs.Layout.{Layout, made, moved, packed}
use Rattle.canary_tables_schema.specs.Remakes.{IsRemade, AreKept, old_trees, new_trees}
use Rattle.canary_tables_schema.specs.Schema.{schema_at}
use Rattle.canary_tables_schema.specs.Stores.{IsNumbered, AreNumbered, Holds, IsHeld, IsUsable}
use Rattle.canary_tables_write.specs.Fills.{IsNumberedAnew, HasOneId}
use Rattle.canary_tables_read.specs.declared.first.TemplateRow.{TemplateRow}
use Rattle.canary_tables_read.specs.declared.first.FirstTally.{FirstTally}
use Rattle.canary_tables_read.specs.First.{IsFirst, AreTemplatesIn, AreTalliesIn}
use Rattle.canary_tables_read.specs.Reader.{seen_inside}
use Rattle.canary_migrate.specs.Migrated.{FirstTables, HoldsFirst, migrated}
use Rattle.canary_migrate.specs.Fills.{IsMade, kept_trees}
use Rattle.canary_migrate.specs.Migrates.{IsRead}

-- a transaction that goes on

and_first : (a b : Bool) → IsTrue (a && b) → IsTrue a
and_first true b h = refl
and_first false b h = absurd (cc)

and_second : (a b : Bool) → IsTrue (a && b) → IsTrue b
and_second true b h = h
and_second false b h = absurd (cc)

and_both : (a b : Bool) → IsTrue a → IsTrue b → IsTrue (a && b)
and_both true b ha hb = hb
and_both false b ha hb = absurd (cc)

pub usable_inside : (s : State) → IsUsable (seen_inside s) → IsUsable s × IsTrue s.in_transaction
usable_inside s h = (record { clean = h.clean; is_open = and_first s.is_open s.in_transaction h.is_open }, and_second s.is_open s.in_transaction h.is_open)

pub usable_seen : (s : State) → IsUsable s → IsTrue s.in_transaction → IsUsable (seen_inside s)
usable_seen s h live = record { clean = h.clean; is_open = and_both s.is_open s.in_transaction h.is_open live }

-- The tables are made.

pub one_id : (rows : List Row) → HasFirstMeta rows → HasOneId rows
one_id [] h = absurd (cc)
one_id (row ∷ []) h = let it : column row 0 ≡ integer 1 = cc in ap (λ v. v ∷ []) it
one_id (row ∷ other ∷ rows) h = absurd (cc)

pub all_made : {A : Type 0} (r : Result A Error) (old mid new : State) → IsRemade (schema_at moved) old_trees new_trees old mid → OnOk r (IsNumberedAnew mid new) → OnOk r (IsMade old new)
all_made (Err e) old mid new remade set = tt
all_made (Ok a) old mid new remade set = record {
  live = set.live;
  sound = set.sound;
  schema = set.schema;
  meta = set.meta;
  kept = (set.kept.0 ∙ remade.stays.1.0, (set.kept.1.0 ∙ remade.stays.1.1.0, (set.kept.1.1.0 ∙ remade.stays.1.1.1.0, (set.kept.1.1.1.0 ∙ remade.stays.1.1.1.1.0, (set.kept.1.1.1.1.0 ∙ remade.stays.1.1.1.1.1.0, (set.kept.1.1.1.1.1.0 ∙ remade.stays.1.1.1.1.1.1.1.0, tt))))));
  none = (set.kept.1.1.1.1.1.1.0 ∙ remade.none.0, (set.kept.1.1.1.1.1.1.1.0 ∙ remade.none.1.0, (set.kept.1.1.1.1.1.1.1.1.0 ∙ remade.none.1.1.0, tt)));
}

-- What they hold.

same : {old new : List Row} → new ≡ old → IsNumbered old → IsNumbered new
same e h = subst IsNumbered (sym e) h

none : {rows : List Row} → rows ≡ [] → IsNumbered rows
none e = subst IsNumbered (sym e) (tt, tt)

one : {rows : List Row} → rows ≡ meta_rows → IsNumbered rows
one e = subst IsNumbered (sym e) ((tt, tt), (refl, tt))

rising : (db : Database) → IsFirst db → AllByRecursion (λ (t : Table). IsNumbered (db.trees t.tree)) first_schema.tables
rising db first = subst (λ (s : Schema). AllByRecursion (λ (t : Table). IsNumbered (db.trees t.tree)) s.tables) first.schema first.rising

numbered : (old new : State) → IsFirst old.now → IsMade old new → AreNumbered moved new.now.trees
numbered old new first it =
    let r = rising old.now first in
    let k = it.kept in
    (one it.meta, (same k.0 r.1.0, (same k.1.0 r.1.1.0, (same k.1.1.0 r.1.1.1.1.0, (same k.1.1.1.0 r.1.1.1.1.1.0, (same k.1.1.1.1.0 r.1.1.1.1.1.1.1.0, (same k.1.1.1.1.1.0 r.1.1.1.1.1.1.1.1.1.0, (none it.none.0, (none it.none.1.0, (none it.none.1.1.0, tt))))))))))

pub formed_made : (old new : State) → IsFirst old.now → IsMade old new → IsFormed new.now
formed_made old new first it = record { layout = moved; schema = it.schema; numbered = numbered old new first it; meta = it.meta }

tree_is : tally_tree (schema_at moved) ≡ 21
tree_is = refl

pub whole_made : (old new : State) → IsMade old new → HasWholeTallies new.now
whole_made old new it =
    let tree : tally_tree new.now.schema ≡ 21 = ap tally_tree it.schema ∙ tree_is in
    subst (λ (k : ℕ). AreWhole k new.now.trees) (sym tree) (subst (λ (rows : List Row). AllByRecursion (λ row. length row ≡ 11) rows) (sym it.none.1.1.0) tt)

-- the rows without what is made anew
abbrev pub emptied : FirstTables → Tables
emptied f = record (migrated f) { revisions = []; bindings = []; tallies = [] }

pub held_made : (old new : State) (f : FirstTables) → IsFirst old.now → HoldsFirst old.now f → IsMade old new → Holds moved new.now (emptied f)
held_made old new f first holds it = record {
  schema = it.schema;
  numbered = numbered old new first it;
  meta = it.meta;
  callers = ap cells_of it.kept.0 ∙ holds.callers;
  kept = ap cells_of it.kept.1.0 ∙ holds.kept;
  services = ap cells_of it.kept.1.1.0 ∙ holds.services;
  runs = ap cells_of it.kept.1.1.1.0 ∙ holds.runs;
  measurements = ap cells_of it.kept.1.1.1.1.0 ∙ holds.measurements;
  history = ap cells_of it.kept.1.1.1.1.1.0 ∙ holds.history;
  revisions = ap cells_of it.none.0;
  bindings = ap cells_of it.none.1.0;
  tallies = ap cells_of it.none.1.1.0;
}

-- a desk's database of this schema is in this layout

not_moved : (k : ℕ) → k ≡ 21 → k ≡ 17 → ⊥
not_moved k e h = omega (arith, e, h)

in_layout : (at : Layout) (t : Tables) (db : Database) → db.schema ≡ schema_at moved → Holds at db t → Holds moved db t
in_layout made t db is h = absurd (not_moved (tally_tree db.schema) (ap tally_tree is) (ap tally_tree h.schema))
in_layout moved t db is h = h
in_layout packed t db is h = absurd (not_moved (tally_tree db.schema) (ap tally_tree is) (ap tally_tree h.schema))

pub held_moved : (db : Database) (t : Tables) → db.schema ≡ schema_at moved → IsHeld db t → Holds moved db t
held_moved db t is h = in_layout h.layout t db is h.holds

-- the rows of the first schema that the tables hold, with these templates and tallies
abbrev pub first_of : Tables → List TemplateRow → List FirstTally → FirstTables
first_of t templates tallies = record {
  callers = t.callers;
  kept = t.kept;
  templates = templates;
  services = t.services;
  runs = t.runs;
  tallies = tallies;
  measurements = t.measurements;
  history = t.history;
}

pub first_held : (old new : State) (t : Tables) (templates : List TemplateRow) (tallies : List FirstTally) → IsRead old.now templates tallies → IsMade old new → Holds moved new.now t → HoldsFirst old.now (first_of t templates tallies)
first_held old new t templates tallies read it holds = record {
  schema = read.first.schema;
  meta = read.meta;
  callers = ap cells_of (sym it.kept.0) ∙ holds.callers;
  kept = ap cells_of (sym it.kept.1.0) ∙ holds.kept;
  templates = read.templates_are;
  services = ap cells_of (sym it.kept.1.1.0) ∙ holds.services;
  runs = ap cells_of (sym it.kept.1.1.1.0) ∙ holds.runs;
  tallies = read.tallies_are;
  measurements = ap cells_of (sym it.kept.1.1.1.1.0) ∙ holds.measurements;
  history = ap cells_of (sym it.kept.1.1.1.1.1.0) ∙ holds.history;
}
