-- The rows of the first schema that a desk's tables no longer have: templates, and tallies that
-- count no passes.
use Rattle.std.specs.Prelude.{◌≡◌, [], ◌∷◌, IsTrue, IsUtf8, IfSome, List, map, Result, Err, IfOk}
use Rattle.std.specs.List.{AllByRecursion}
use Rattle.sqlite.specs.State.{State}
use Rattle.sqlite.specs.Effect.{Database}
use Rattle.sqlite_value.specs.declared.value.Value.TheVariants.{Text as Words}
use Rattle.sqlite_value.specs.Order.{Row, column}
use Rattle.canary_base.specs.Names.{is_name}
use Rattle.canary_tables_rows.specs.Limits.{FitsNumber, FitsMoment}
use Rattle.canary_tables_schema.specs.Cells.{integer, whole_or_null}
use Rattle.canary_tables_schema.specs.First.{first_schema}
use Rattle.canary_tables_schema.specs.Formed.{HasRisingTables}
use Rattle.canary_tables_schema.specs.Stores.{IsUsable}
use Rattle.canary_tables_read.specs.declared.fault.ReadFault.{ReadFault}
use Rattle.canary_tables_read.specs.declared.fault.ReadFault.TheVariants.{Broken}
use Rattle.canary_tables_read.specs.declared.first.TemplateRow.{TemplateRow}
use Rattle.canary_tables_read.specs.declared.first.FirstTally.{FirstTally}

abbrev pub template_cells : TemplateRow → Row
template_cells r = Words r.name ∷ Words r.spec ∷ []

abbrev pub first_tally_cells : FirstTally → Row
first_tally_cells r =
    Words r.service ∷ integer r.run ∷ integer r.metric ∷ integer r.counted ∷ integer r.failed
    ∷ integer r.inconclusive ∷ integer r.errors ∷ integer r.consecutive ∷ whole_or_null r.last ∷ []

-- what a row of the tree shows, after its rowid: NULL for a column that it lacks

abbrev pub template_shown : Row → Row
template_shown row = column row 1 ∷ column row 2 ∷ []

abbrev pub tally_shown : Row → Row
tally_shown row =
    column row 1 ∷ column row 2 ∷ column row 3 ∷ column row 4 ∷ column row 5 ∷ column row 6
    ∷ column row 7 ∷ column row 8 ∷ column row 9 ∷ []

-- the templates of a database of the first schema are these
abbrev pub AreTemplatesIn : Database → List TemplateRow → Type 0
AreTemplatesIn db rows = map template_shown (db.trees 5) ≡ map template_cells rows

-- its tallies are these
abbrev pub AreTalliesIn : Database → List FirstTally → Type 0
AreTalliesIn db rows = map tally_shown (db.trees 11) ≡ map first_tally_cells rows

-- the schema is the first one, and the rowids of each table rise
pub record IsFirst (db : Database) : Type 0 where
  pub schema : db.schema ≡ first_schema
  pub rising : HasRisingTables db

-- it finds such a thing in a database of the first schema
abbrev pub FindsFirst : {Q A F : Type 0} → (Database → A → Type 0) → (Q → State) → Q → Q
    → Result A F → Type 0
FindsFirst such shows old new result =
    IsUsable (shows new) → IsFirst (shows old).now → IfOk result (such (shows old).now)

-- and nothing else that is such a thing
abbrev pub FindsOnly : {Q A F : Type 0} → (Database → A → Type 0) → (Q → State) → Q → Q
    → Result A F → Type 0
FindsOnly {A = A} such shows old new result = IsUsable (shows new) → IsFirst (shows old).now
    → (all : A) → such (shows old).now all → IfOk result (λ found. found ≡ all)

-- something is broken only if not all of those are within these limits
abbrev pub BreaksFirst : {Q A X : Type 0} → (Database → List X → Type 0) → (X → Type 0)
    → (Q → State) → Q → Q → Result A ReadFault → Type 0
BreaksFirst {X = X} are Within shows old new result = IsUsable (shows new)
    → IsFirst (shows old).now → result ≡ Err Broken
    → (all : List X) → are (shows old).now all → ¬ AllByRecursion Within all

-- The rows that a program can hold.

pub record IsTemplateWithin (row : TemplateRow) : Type 0 where
  pub name : IsTrue (is_name row.name)
  pub spec : IsUtf8 row.spec

pub record IsFirstTallyWithin (row : FirstTally) : Type 0 where
  pub service : IsTrue (is_name row.service)
  pub run : FitsNumber row.run
  pub metric : FitsNumber row.metric
  pub counted : FitsNumber row.counted
  pub failed : FitsNumber row.failed
  pub inconclusive : FitsNumber row.inconclusive
  pub errors : FitsNumber row.errors
  pub consecutive : FitsNumber row.consecutive
  pub last : IfSome row.last FitsMoment
