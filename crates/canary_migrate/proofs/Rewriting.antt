-- From the rows of the first schema to those that are judged.
use Rattle.std.proofs.Common.{◌≡◌, [], ◌∷◌, ◌++◌, List, map, IsTrue, Ok, Err, Result, OnOk, refl, sym, ap, subst, ◌∙◌, arith}
use Rattle.std.specs.List.{AllByRecursion, list_all}
use Rattle.sqlite.specs.Order.{Row}
use Rattle.sqlite.specs.State.{State, HasCleanDisk, Survives}
use Rattle.sqlite.specs.Effect.{Database, IsDatabase}
use Rattle.canary_tables_rows.specs.Limits.{AreWithin}
use Rattle.canary_tables_rows.specs.Tables.{Tables}
use Rattle.canary_tables_schema.specs.Cells.{cells_of, revision_cells, binding_cells, tally_cells}
use Rattle.canary_tables_schema.specs.First.{HasFirstMeta}
use Rattle.canary_tables_schema.specs.Formed.{IsFormed, HasRows, HasWholeTallies}
use Rattle.canary_tables_schema.specs.Layout.{moved}
use Rattle.canary_tables_schema.specs.Stores.{IsUsable, IsHeld, Holds, Stores, StaysCommitted}
use Rattle.canary_tables_contents.specs.Services.{IsJudged}
use Rattle.canary_tables_read.specs.declared.first.TemplateRow.{TemplateRow}
use Rattle.canary_tables_read.specs.declared.first.FirstTally.{FirstTally}
use Rattle.canary_tables_read.specs.Finds.{IsSame}
use Rattle.canary_tables_read.specs.First.{IsFirst, AreTemplatesIn, AreTalliesIn, IsTemplateWithin, IsFirstTallyWithin}
use Rattle.canary_tables_read.specs.Reader.{IsKept, seen_inside}
use Rattle.canary_migrate.specs.Migrated.{FirstTables, HoldsFirst, migrated}
use Rattle.canary_migrate.specs.FirstContents.{is_plain_row}
use Rattle.canary_migrate.specs.Fills.{IsMade, filled}
use Rattle.canary_migrate.specs.Migrates.{IsOfFirst, IsRead, IsRewritten, HasJudgedFirstRows}
use Rattle.canary_migrate.proofs.Beyond.{templates_within, tallies_within}
use Rattle.canary_migrate.proofs.Moved.{emptied, first_of, usable_inside, formed_made, whole_made, held_made, held_moved, first_held}
use Rattle.canary_migrate.proofs.Written.{kept_live}

-- a judgement that succeeds is one of all rows
pub if_judged : {E : Type 0} (r : Result Unit E) (three : State) (Q : Type 0) (P : Tables → Type 0) → (((t : Tables) → Stores three t → P t) → Q) → ((t : Tables) → Stores three t → OnOk r (P t)) → OnOk r Q
if_judged (Err e) three Q P then_so judged = tt
if_judged (Ok u) three Q P then_so judged = then_so judged

-- if there are no cells, there are no rows
no_rows : {X : Type 0} (cells : X → Row) (xs : List X) (rows : List Row) → cells_of rows ≡ map cells xs → rows ≡ [] → xs ≡ []
no_rows cells [] rows e none = refl
no_rows cells (x ∷ xs) rows e none = absurd (let it : [] ≡ map cells (x ∷ xs) = sym (ap cells_of none) ∙ e in cc)

-- what is added to rows without revisions, bindings and tallies
filled_of : (t : Tables) (templates : List TemplateRow) (tallies : List FirstTally) → t.revisions ≡ [] → t.bindings ≡ [] → t.tallies ≡ [] → filled templates tallies t ≡ migrated (first_of t templates tallies)
filled_of t templates tallies revisions bindings counted = rw (revisions, bindings, counted) refl

filled_first : (f : FirstTables) (templates : List TemplateRow) (tallies : List FirstTally) → templates ≡ f.templates → tallies ≡ f.tallies → filled templates tallies (emptied f) ≡ migrated f
filled_first f templates tallies same also = rw (same, also) refl

-- before anything is written, after the tables are made, and after they are known to hold rows
module _ (templates : List TemplateRow) (tallies : List FirstTally) (old one two : State) (live : IsTrue old.in_transaction) (read : IsUsable old → IsRead old.now templates tallies)
    (committed : StaysCommitted old one) (survives : Survives old one (λ _. ⊥)) (makes : HasCleanDisk one → IsTrue old.in_transaction → IsOfFirst old.now → IsMade old one) where
  pub made_so : IsUsable one → IsRead old.now templates tallies × IsMade old one
  made_so usable =
      let was = (kept_live old one committed (λ _. live) survives usable).0 in
      let r = read was in
      (r, makes usable.clean live (r.first.schema, r.meta))

  pub sound_one : IsUsable (seen_inside one) → IsDatabase one.now
  sound_one usable = (made_so (usable_inside one usable).0).1.sound

  module _ (same : IsSame (seen_inside one) (seen_inside two)) where
    one_is : IsUsable (seen_inside two) → IsRead old.now templates tallies × IsMade old one
    one_is usable = made_so (usable_inside one (same usable).0).0

    -- the rows that become a desk's are held
    pub held_two : (f : FirstTables) → HoldsFirst old.now f → IsUsable (seen_inside two) → Holds moved two.now (emptied f)
    held_two f first usable =
        let m = one_is usable in
        subst (λ (db : Database). Holds moved db (emptied f)) (sym (same usable).1) (held_made old one f m.0.first first m.1)

    -- rows that are not those of tables are not those of the first schema
    pub typed_broken : (IsFormed one.now → ¬ HasRows one.now) → IsUsable (seen_inside two) → ¬ HasJudgedFirstRows old.now
    typed_broken broken usable f =
        let m = one_is usable in
        broken (formed_made old one m.0.first m.1) (emptied f.0, record { layout = moved; holds = held_made old one f.0 m.0.first f.1.held m.1 })

    module _ (types : IsUsable (seen_inside two) → IsFormed one.now → HasWholeTallies one.now → HasRows one.now) where
      pub rows_two : IsUsable (seen_inside two) → (t : Tables) × Holds moved two.now t × HoldsFirst old.now (first_of t templates tallies) × (filled templates tallies t ≡ migrated (first_of t templates tallies))
      rows_two usable =
          let m = one_is usable in
          let has = types usable (formed_made old one m.0.first m.1) (whole_made old one m.1) in
          let t = has.0 in
          let holds = held_moved one.now t m.1.schema has.1 in (
            t,
            subst (λ (db : Database). Holds moved db t) (sym (same usable).1) holds,
            first_held old one t templates tallies m.0 m.1 holds,
            filled_of t templates tallies (no_rows revision_cells t.revisions _ holds.revisions m.1.none.0) (no_rows binding_cells t.bindings _ holds.bindings m.1.none.1.0) (no_rows tally_cells t.tallies _ holds.tallies m.1.none.1.1.0),
          )

      module _ (three : State) (was : IsUsable (seen_inside three) → IsUsable (seen_inside two)) (sound : IsUsable (seen_inside three) → (t : Tables) → Holds moved two.now t → IsDatabase three.now)
          (wrote : IsUsable (seen_inside three) → (t : Tables) → Holds moved two.now t → Stores three (filled templates tallies t)) where
        pub sound_three : IsUsable (seen_inside three) → IsDatabase three.now
        sound_three usable = let r = rows_two (was usable) in sound usable r.0 r.1

        -- what any rows that were held become
        stored_of : (f : FirstTables) → HoldsFirst old.now f → IsUsable (seen_inside three) → Stores three (migrated f)
        stored_of f holds usable =
            let m = one_is (was usable) in
            let only = m.0.only f holds in
            subst (Stores three) (filled_first f templates tallies only.0 only.1) (wrote usable (emptied f) (held_two f holds (was usable)))

        module _ (four : State) (last : IsSame (seen_inside three) (seen_inside four)) where
          pub rewritten : (IsUsable (seen_inside four) → (t : Tables) → Stores three t → IsJudged t) → IsUsable (seen_inside four) → IsRewritten old.now four.now
          rewritten judged usable =
              let l = last usable in
              let m = one_is (was l.0) in
              let r = rows_two (was l.0) in
              let stored : Stores three (migrated (first_of r.0 templates tallies)) = subst (Stores three) r.3 (wrote l.0 r.0 r.1) in
              record {
                rows = first_of r.0 templates tallies;
                held = r.2;
                plain = m.0.plain;
                stores = subst (λ (db : Database). IsHeld db (migrated (first_of r.0 templates tallies))) (sym l.1) stored;
                judged = judged usable (migrated (first_of r.0 templates tallies)) stored;
                all = λ f holds. subst (λ (db : Database). IsHeld db (migrated f)) (sym l.1) (stored_of f holds l.0);
              }

          -- what is refused as it is judged
          pub judge_broken : (IsUsable (seen_inside four) → (t : Tables) → Stores three t → ¬ (AreWithin t × IsJudged t)) → IsUsable (seen_inside four) → ¬ HasJudgedFirstRows old.now
          judge_broken refused usable f = refused usable (migrated f.0) (stored_of f.0 f.1.held (last usable).0) (f.1.within, f.1.judged)

    -- what is refused as the tables are filled
    pub fill_broken : IsUsable (seen_inside two) → ((t : Tables) → Holds moved two.now t → ¬ AreWithin (filled templates tallies t)) → ¬ HasJudgedFirstRows old.now
    fill_broken usable refused f =
        let m = one_is usable in
        let only = m.0.only f.0 f.1.held in
        refused (emptied f.0) (held_two f.0 f.1.held usable) (subst AreWithin (sym (filled_first f.0 templates tallies only.0 only.1)) f.1.within)

-- The templates and the tallies are read, one after the other.

module _ (templates : List TemplateRow) (tallies : List FirstTally) (old one two : State) (first : IsUsable old → IsFirst old.now) (meta : IsUsable old → HasFirstMeta (old.now.trees 0)) (same_one : IsSame old one) (same_two : IsSame one two)
    (plain : IsTrue (list_all is_plain_row templates)) (templates_found : IsUsable one → IsFirst old.now → AreTemplatesIn old.now templates) (templates_only : IsUsable one → IsFirst old.now → (all : List TemplateRow) → AreTemplatesIn old.now all → templates ≡ all)
    (tallies_found : IsUsable two → IsFirst one.now → AreTalliesIn one.now tallies) (tallies_only : IsUsable two → IsFirst one.now → (all : List FirstTally) → AreTalliesIn one.now all → tallies ≡ all) where
  pub read_so : IsUsable two → IsRead two.now templates tallies
  read_so usable =
      let later = same_two usable in
      let before = same_one later.0 in
      let all : two.now ≡ old.now = later.1 ∙ before.1 in
      let here = first before.0 in
      let there : IsFirst one.now = subst IsFirst (sym before.1) here in
      let told = templates_found later.0 here in
      let counts : AreTalliesIn old.now tallies = subst (λ (db : Database). AreTalliesIn db tallies) before.1 (tallies_found usable there) in
      subst (λ (db : Database). IsRead db templates tallies) (sym all) (record {
        first = here;
        meta = meta before.0;
        templates_are = told;
        tallies_are = counts;
        plain = plain;
        only = λ f holds. (templates_only later.0 here f.templates holds.templates, tallies_only usable there f.tallies (subst (λ (db : Database). AreTalliesIn db f.tallies) (sym before.1) holds.tallies));
      })

pub templates_broken : (db : Database) → ((all : List TemplateRow) → AreTemplatesIn db all → ¬ (AllByRecursion IsTemplateWithin all × IsTrue (list_all is_plain_row all))) → ¬ HasJudgedFirstRows db
templates_broken db broken f = broken f.0.templates f.1.held.templates (templates_within f.0.templates f.1.within.revisions, f.1.plain)

pub tallies_broken : (db : Database) → ((all : List FirstTally) → AreTalliesIn db all → ¬ AllByRecursion IsFirstTallyWithin all) → ¬ HasJudgedFirstRows db
tallies_broken db broken f = broken f.0.tallies f.1.held.tallies (tallies_within f.0.measurements f.0.tallies f.1.within.tallies)
