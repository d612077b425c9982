-- From a connection over a store that is opened anew, and then over one that is migrated.
use Rattle.std.proofs.Common.{◌≡◌, IsTrue, List, [], ◌∷◌, refl, sym, ap, subst, ◌∙◌, arith}
use Rattle.std.specs.List.{Contains, list_all}
use Rattle.sqlite.specs.Effect.{Database}
use Rattle.sqlite.specs.State.{State}
use Rattle.sqlite_value.specs.Order.{Row}
use Rattle.canary_tables_rows.specs.Tables.{Tables}
use Rattle.canary_tables_schema.specs.Cells.{integer, tables_in}
use Rattle.canary_tables_schema.specs.First.{first_schema, HasFirstMeta}
use Rattle.canary_tables_schema.specs.Laws.{OneReading}
use Rattle.canary_tables_schema.specs.Numbered.{IsOpenedAnew}
use Rattle.canary_tables_schema.specs.Stores.{IsUsable}
use Rattle.canary_tables_contents.specs.Laws.{ReadsBack}
use Rattle.canary_tables_contents.specs.Reading.{contents_of}
use Rattle.canary_tables_contents.specs.JudgedLaws.{JudgingIsExact}
use Rattle.canary_tables_contents.specs.Soundness.{AreSoundTables, ExactlyThose}
use Rattle.canary_tables_read.specs.Meta.{HasMetaRow, Stands}
use Rattle.canary_tables_read.specs.declared.meta.MetaRow.{MetaRow}
use Rattle.canary_tables_read.specs.declared.meta.MetaRow.TheVariants.{Alone}
use Rattle.canary_migrate.specs.Migrated.{FirstTables, HoldsFirst, migrated}
use Rattle.canary_migrate.specs.FirstContents.{is_plain_row, AreFirstContents, first_rows, HasFirstRowsOf}
use Rattle.canary_migrate.specs.Migrates.{HasFirstTables, HasSoundFirstRows, HasJudgedFirstRows, AreJudgedFirst, IsMigrated, IsRewritten}
use Rattle.canary_migrate.proofs.FirstMigrates.{first_rows_migrate, sound_rows_migrate}
use Rattle.canary_migrate.proofs.FirstJudged.{first_of_migrated, contents_first, plain_templates, migrated_within}

-- the row of the first schema, if it is found alone
pub alone_row : (rows : List Row) (row : MetaRow) → row ≡ Alone → Stands 1 (HasFirstMeta rows) rows row → HasFirstMeta rows
alone_row rows row is stands = subst (Stands 1 (HasFirstMeta rows) rows) is stands

pub has_row : (rows : List Row) → HasFirstMeta rows → HasMetaRow 1 rows
has_row rows alone = subst (λ (shown : List Row). Contains shown (integer 1 ∷ integer 1 ∷ [])) (sym alone) (0, omega arith, refl)

-- rows that are migrated are those of contents of the first schema's time
first_sound : (f : FirstTables) → IsTrue (list_all is_plain_row f.templates) → AreSoundTables (migrated f) → AreFirstContents (contents_of (migrated f))
first_sound f plain sound = let h = sound.0 in contents_first f (contents_of (migrated f)) h.rows h.readable h.lawful plain

module _ (exact : JudgingIsExact) (those : ExactlyThose) where
  -- and those of such contents are judged once they are migrated
  judged_first : (db : Database) (t : Tables) → HasFirstRowsOf db t → AreJudgedFirst db (first_rows t)
  judged_first db t first =
      let h = first.sound.0 in
      let c = contents_of t in
      record {
        held = first.held;
        plain = plain_templates t c h.rows h.readable h.lawful first.first;
        within = migrated_within t c h.rows h.readable h.lawful first.first first.within;
        judged = (exact (migrated (first_rows t))).1 (sound_rows_migrate those t first.sound first.first);
      }

  -- no rows that are judged, none that are sound
  none_sound : (db : Database) → ¬ HasJudgedFirstRows db → ¬ HasSoundFirstRows db
  none_sound db none f = none (first_rows f.0, judged_first db f.0 f.1)

  pub broken_so : (old mid new : State) → old.now.schema ≡ first_schema → (IsUsable mid → IsOpenedAnew old mid) → (IsUsable new → IsUsable mid) → (IsUsable new → HasMetaRow 1 (mid.now.trees 0) × ¬ HasJudgedFirstRows mid.now) → IsUsable new
      → HasFirstTables old.now × ¬ HasSoundFirstRows old.now
  broken_so old mid new schema opened held broken usable =
      let o = opened (held usable) in
      let b = subst (λ (db : Database). HasMetaRow 1 (db.trees 0) × ¬ HasJudgedFirstRows db) o.same (broken usable) in
      ((schema, b.0), none_sound old.now b.1)

-- whatever contents the rows were of, it is they that are there now
contents_so : ReadsBack → OneReading → (old new : Database) → IsRewritten old new → (t : Tables) → HasFirstRowsOf old t → contents_of (tables_in new) ≡ contents_of t
contents_so reads one old new w t first =
    let h = first.sound.0 in
    let rows = first_rows_migrate t (contents_of t) h.rows h.readable h.lawful first.first in
    ap contents_of (one new (migrated (first_rows t)) (w.all (first_rows t) first.held)) ∙ reads (migrated (first_rows t)) (contents_of t) rows h.readable h.lawful

pub migrated_so : JudgingIsExact → ReadsBack → OneReading → (old mid new : State) → (IsUsable mid → IsOpenedAnew old mid) → (IsUsable new → IsUsable mid) → (IsUsable new → IsRewritten mid.now new.now) → IsUsable new → IsMigrated old new
migrated_so exact reads one old mid new opened held done usable =
    let o = opened (held usable) in
    let w = subst (λ (db : Database). IsRewritten db new.now) o.same (done usable) in
    let sound : AreSoundTables (migrated w.rows) = (exact _).0 w.judged in
    record {
      was = o.was;
      rows = migrated w.rows;
      held = subst (HoldsFirst old.now) (sym (first_of_migrated w.rows)) w.held;
      sound = sound;
      first = first_sound w.rows w.plain sound;
      stores = w.stores;
      contents = contents_so reads one old.now new.now w;
    }

pub other_so : (old mid new : State) → (IsUsable mid → IsOpenedAnew old mid) → (IsUsable new → IsUsable mid) → (IsUsable new → ¬ HasMetaRow 1 (mid.now.trees 0)) → IsUsable new → ¬ HasFirstTables old.now
other_so old mid new opened held other usable first =
    let o = opened (held usable) in
    other usable (subst (λ (db : Database). HasMetaRow 1 (db.trees 0)) (sym o.same) first.1)

pub left_so : (old mid new : State) → (IsUsable mid → IsOpenedAnew old mid) → (IsUsable new → IsUsable mid) → (IsUsable new → new.now ≡ mid.now) → IsUsable new → IsUsable old × (new.now ≡ old.now)
left_so old mid new opened held failed usable = let o = opened (held usable) in (o.was, failed usable ∙ o.same)

pub left_anew : (old mid : State) → (IsUsable mid → IsOpenedAnew old mid) → IsUsable mid → IsUsable old × (mid.now ≡ old.now)
left_anew old mid opened usable = let o = opened usable in (o.was, o.same)
