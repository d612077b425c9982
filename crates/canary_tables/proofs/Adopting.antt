-- Rows of a database that is adopted.
use Rattle.std.proofs.Common.{◌≡◌, ℕ, List, [], ◌∷◌, length, map, drop, refl, sym, ap, subst, ◌∙◌, arith}
use Rattle.std.specs.Prelude.{Option, Some, None, Result, Ok, Err, IfOk, IfSome}
use Rattle.std.specs.List.{AllByRecursion}
use Rattle.sqlite.specs.Effect.{Database}
use Rattle.sqlite.specs.Held.{Held, state}
use Rattle.sqlite.specs.State.{State}
use Rattle.sqlite_trees.specs.declared.store.Store.{Ghosts}
use Rattle.sqlite_value.specs.Order.{Row}
use Rattle.canary_once.specs.Sound.{AreSoundContents}
use Rattle.canary_tables_rows.specs.Tables.{Tables}
use Rattle.canary_tables_rows.specs.declared.rows.TallyRow.{TallyRow}
use Rattle.canary_tables_schema.specs.Cells.{cells_of, meta_rows, tally_cells, tables_in, tally_tree}
use Rattle.canary_tables_schema.specs.Formed.{IsDeskSchema, IsRising, IsFormed, HasRows, AreWhole, HasWholeTallies}
use Rattle.canary_tables_schema.specs.Layout.{Layout, made, moved, packed, tally_at}
use Rattle.canary_tables_schema.specs.Numbered.{IsOpenedAnew}
use Rattle.canary_tables_schema.specs.Laws.{OneReading}
use Rattle.canary_tables_schema.specs.Schema.{schema_at}
use Rattle.canary_tables_schema.specs.Stores.{IsUsable, IsHeld, Stores}
use Rattle.canary_tables_contents.specs.JudgedLaws.{JudgingIsExact}
use Rattle.canary_tables_contents.specs.Services.{IsJudged}
use Rattle.canary_tables_read.specs.Finds.{IsSame}
use Rattle.canary_tables_read.specs.Meta.{HasMetaRow, Stands}
use Rattle.canary_tables_read.specs.declared.meta.MetaRow.{MetaRow}
use Rattle.canary_tables_read.specs.declared.meta.MetaRow.TheVariants.{Alone}
use Rattle.canary_tables_contents.specs.Reading.{contents_of, HoldsContents}
use Rattle.canary_tables.specs.Adopts.{HasDeskTables, HasSoundRows, HasSoundRowsWithin, IsBelieved, IsAdopted, IsSoundDesk}
use Rattle.canary_tables.specs.Desk.{IsDesk}

-- Rows of tallies have ten values.

first_of : List Row → Row
first_of [] = []
first_of (row ∷ rows) = row

rest_of : List Row → List Row
rest_of [] = []
rest_of (row ∷ rows) = rows

count : List Row → ℕ
count [] = 0
count (row ∷ rows) = 1

eleven : (row : Row) (t : TallyRow) → drop 1 row ≡ tally_cells t → length row ≡ 11
eleven [] t e = grind (arith, ap length e)
eleven (x ∷ row) t e = grind (arith, ap length e)

whole_tallies : (rows : List Row) (ts : List TallyRow) → cells_of rows ≡ map tally_cells ts → AllByRecursion (λ row. length row ≡ 11) rows
unfolding first_of rest_of
whole_tallies [] ts e = tt
whole_tallies (row ∷ rows) [] e = grind (arith, ap count e)
whole_tallies (row ∷ rows) (t ∷ ts) e = (eleven row t (ap first_of e), whole_tallies rows ts (ap rest_of e))

tree_at : (at : Layout) → tally_tree (schema_at at) ≡ tally_at at
tree_at made = refl
tree_at moved = refl
tree_at packed = refl

pub whole : (db : Database) → HasRows db → HasWholeTallies db
whole db h =
    let holds = h.1.holds in
    let at : Layout = h.1.layout in
    let tree : tally_tree db.schema ≡ tally_at at = ap tally_tree holds.schema ∙ tree_at at in
    subst (λ (k : ℕ). AreWhole k db.trees) (sym tree) (whole_tallies (db.trees (tally_at at)) (h.0).tallies holds.tallies)

-- the tables are there, and meta has its one row
pub formed : (db : Database) → IsDeskSchema db.schema → IsRising db → db.trees 0 ≡ meta_rows → IsFormed db
formed db cached rises meta = record { layout = cached.0; schema = cached.1; numbered = rises cached.0 cached.1; meta = meta }

-- meta has its one row if the row of the schema is found alone
pub alone_row : (rows : List Row) (row : MetaRow) → row ≡ Alone → Stands 2 (rows ≡ meta_rows) rows row → rows ≡ meta_rows
alone_row rows row is stands = subst (Stands 2 (rows ≡ meta_rows) rows) is stands

-- then the tables of a desk are there
pub has_tables : (db : Database) → IsDeskSchema db.schema → db.trees 0 ≡ meta_rows → HasDeskTables db
has_tables db cached meta = (cached, subst (HasMetaRow 2) (sym meta) (0, omega arith, refl))

-- rows that are judged are believed
pub believes : JudgingIsExact → (old mid new : State) → IsSame old mid → IsSame mid new → (IsUsable mid → IsFormed old.now) → (IsUsable mid → HasRows old.now) → (IsUsable new → (t : Tables) → Stores mid t → IsJudged t) → IsUsable new → IsBelieved old.now
believes exact old mid new first second is_formed has judged usable =
    let midway = (second usable).0 in
    let rows : HasRows old.now = has midway in
    let stored : Stores mid rows.0 = subst (λ (db : Database). IsHeld db rows.0) (sym (first midway).1) rows.1 in
    record {
      formed = is_formed midway;
      rows = rows.0;
      held = rows.1;
      sound = (exact rows.0).0 (judged usable rows.0 stored);
    }

-- no rows, no sound ones
pub none_sound : (db : Database) → ¬ HasRows db → ¬ HasSoundRowsWithin db
none_sound db none h = none (h.0, h.1.0)

-- From a connection over a store that was just opened to one that is believed.

pub adopted : (old new : State) → IsSame old new → (IsUsable new → IsBelieved old.now) → IsUsable new → IsAdopted old new
adopted old new same believed usable =
    let b = believed usable in
    let stays = same usable in
    record {
      was = stays.0;
      formed = b.formed;
      sound = (b.rows, (b.held, b.sound));
      contents = ap (λ (db : Database). contents_of (tables_in db)) stays.1;
      same = stays.1;
    }

pub is_desk : OneReading → (mid new : State) → IsSame mid new → (IsUsable new → IsBelieved mid.now) → IsUsable new → IsDesk new
is_desk one mid new same believed usable =
    let b = subst IsBelieved (sym (same usable).1) (believed usable) in
    let is = one new.now b.rows b.held in
    record {
      stores = subst (IsHeld new.now) (sym is) b.held;
      holds = subst HoldsContents (sym is) b.sound.0;
    }

-- From one whose store was opened anew in between.

pub adopted_anew : (old mid new : State) → (IsUsable mid → IsOpenedAnew old mid) → (IsUsable new → IsAdopted mid new) → IsUsable new → IsAdopted old new
adopted_anew old mid new opened is_adopted usable =
    let it = is_adopted usable in
    let o = opened it.was in
    record {
      was = o.was;
      formed = subst IsFormed o.same it.formed;
      sound = subst HasSoundRows o.same it.sound;
      contents = it.contents ∙ ap (λ (db : Database). contents_of (tables_in db)) o.same;
      same = it.same ∙ o.same;
    }

pub other_before : (old mid new : State) → (IsUsable mid → IsOpenedAnew old mid) → IsSame mid new → (IsUsable new → ¬ HasDeskTables mid.now) → IsUsable new → ¬ HasDeskTables old.now
other_before old mid new opened same other usable = subst (λ (db : Database). ¬ HasDeskTables db) (opened (same usable).0).same (other usable)

pub left_as_it_was : (old mid new : State) → (IsUsable mid → IsOpenedAnew old mid) → IsSame mid new → IsUsable new → IsUsable old × (new.now ≡ old.now)
left_as_it_was old mid new opened same usable =
    let o = opened (same usable).0 in (o.was, (same usable).1 ∙ o.same)

pub broken_before : (old mid new : State) → (IsUsable mid → IsOpenedAnew old mid) → IsSame mid new → (IsUsable new → HasDeskTables mid.now × IsRising mid.now × ¬ HasSoundRowsWithin mid.now) → IsUsable new → HasDeskTables old.now × IsRising old.now × ¬ HasSoundRowsWithin old.now
broken_before old mid new opened same broken usable = subst (λ (db : Database). HasDeskTables db × IsRising db × ¬ HasSoundRowsWithin db) (opened (same usable).0).same (broken usable)

-- Books that are opened.

module _ (one : OneReading) where
  pub adopted_sound : (old new : State) → IsAdopted old new → IsSoundDesk new
  adopted_sound old new it =
      let rows : HasSoundRows new.now = subst HasSoundRows (sym it.same) it.sound in
      record {
        rows = rows;
        contents = subst (λ (t : Tables). AreSoundContents (contents_of t)) (sym (one new.now rows.0 rows.1.0)) rows.1.1.1;
      }

  pub all_sound : {S F : Type 0} (g : Ghosts S) (old : State) (r : Result (Option (Held S)) F) → IfOk r (λ found. IfSome found (λ book. IsUsable (state g book) → IsAdopted old (state g book)))
      → IfOk r (λ found. IfSome found (λ book. IsUsable (state g book) → IsSoundDesk (state g book)))
  all_sound g old (Ok (Some book)) is = λ usable. adopted_sound old (state g book) (is usable)
  all_sound g old (Ok None) is = tt
  all_sound g old (Err e) is = tt
