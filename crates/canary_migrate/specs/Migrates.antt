-- What migrating a database comes to.
use Rattle.std.specs.Prelude.{◌≡◌, IsTrue, List}
use Rattle.std.specs.List.{list_all}
use Rattle.sqlite.specs.Effect.{Database}
use Rattle.sqlite.specs.State.{State}
use Rattle.canary_tables_rows.specs.Limits.{AreWithin}
use Rattle.canary_tables_rows.specs.Tables.{Tables}
use Rattle.canary_tables_schema.specs.Cells.{tables_in}
use Rattle.canary_tables_schema.specs.First.{first_schema, HasFirstMeta}
use Rattle.canary_tables_schema.specs.Stores.{IsUsable, IsHeld, Stores}
use Rattle.canary_tables_contents.specs.Reading.{contents_of}
use Rattle.canary_tables_contents.specs.Services.{IsJudged}
use Rattle.canary_tables_contents.specs.Soundness.{AreSoundTables}
use Rattle.canary_tables_read.specs.declared.first.TemplateRow.{TemplateRow}
use Rattle.canary_tables_read.specs.declared.first.FirstTally.{FirstTally}
use Rattle.canary_tables_read.specs.First.{IsFirst, AreTemplatesIn, AreTalliesIn}
use Rattle.canary_tables_read.specs.Meta.{HasMetaRow}
use Rattle.canary_migrate.specs.Migrated.{FirstTables, HoldsFirst, migrated}
use Rattle.canary_migrate.specs.FirstContents.{is_plain_row, AreFirstContents, first_rows, HasFirstRowsOf}

-- just the tables and indexes of the first schema are there, and its row stands in meta
abbrev pub HasFirstTables : Database → Type 0
HasFirstTables db = (db.schema ≡ first_schema) × HasMetaRow 1 (db.trees 0)

-- so, and no other row stands in meta
abbrev pub IsOfFirst : Database → Type 0
IsOfFirst db = (db.schema ≡ first_schema) × HasFirstMeta (db.trees 0)

-- the rows that the first schema has of sound contents of its time stand in it, and a program can
-- hold each of them
abbrev pub HasSoundFirstRows : Database → Type 0
HasSoundFirstRows db = (t : Tables) × HasFirstRowsOf db t

-- the same of rows that are judged key by key, once they are migrated
pub record AreJudgedFirst (db : Database) (f : FirstTables) : Type 0 where
  pub held : HoldsFirst db f
  pub plain : IsTrue (list_all is_plain_row f.templates)
  pub within : AreWithin (migrated f)
  pub judged : IsJudged (migrated f)

abbrev pub HasJudgedFirstRows : Database → Type 0
HasJudgedFirstRows db = (f : FirstTables) × AreJudgedFirst db f

-- the database is of the first schema, and these are its templates and its tallies
pub record IsRead (db : Database) (templates : List TemplateRow)
    (tallies : List FirstTally) : Type 0 where
  pub first : IsFirst db
  pub meta : HasFirstMeta (db.trees 0)
  pub templates_are : AreTemplatesIn db templates
  pub tallies_are : AreTalliesIn db tallies
  pub plain : IsTrue (list_all is_plain_row templates)
  pub only : (f : FirstTables) → HoldsFirst db f
      → (templates ≡ f.templates) × (tallies ≡ f.tallies)

-- the database held rows of the first schema, and holds what they become, which is judged
pub record IsRewritten (old new : Database) : Type 0 where
  pub rows : FirstTables
  pub held : HoldsFirst old rows
  pub plain : IsTrue (list_all is_plain_row rows.templates)
  pub stores : IsHeld new (migrated rows)
  pub judged : IsJudged (migrated rows)
  -- so do any rows of the first schema that it held
  pub all : (f : FirstTables) → HoldsFirst old f → IsHeld new (migrated f)

-- the database held what the first schema has of the rows of sound contents of its time, and stores
-- these rows; whichever contents these are, it is they that it contains now
pub record IsMigrated (old new : State) : Type 0 where
  pub was : IsUsable old
  pub rows : Tables
  pub held : HoldsFirst old.now (first_rows rows)
  pub sound : AreSoundTables rows
  pub first : AreFirstContents (contents_of rows)
  pub stores : Stores new rows
  pub contents : (t : Tables) → HasFirstRowsOf old.now t
      → contents_of (tables_in new.now) ≡ contents_of t
