-- Which rows stand in meta.
use Rattle.std.specs.Prelude.{Result, IfOk, ℕ, Bool, true, false, List, [], ◌∷◌, map, Contains}
use Rattle.sqlite.specs.Effect.{Database}
use Rattle.sqlite.specs.State.{State, Shown}
use Rattle.sqlite_value.specs.Order.{Row}
use Rattle.canary_tables_schema.specs.Cells.{integer}
use Rattle.canary_tables_schema.specs.First.{meta_shown}
use Rattle.canary_tables_schema.specs.Formed.{IsDeskSchema, IsRising}
use Rattle.canary_tables_schema.specs.Stores.{IsUsable}
use Rattle.canary_tables_read.specs.declared.meta.MetaRow.{MetaRow}
use Rattle.canary_tables_read.specs.declared.meta.MetaRow.TheVariants.{Alone, WithOthers, Missing}

-- the row of the schema with this number is there: its id is 1
abbrev pub HasMetaRow : ℕ → List Row → Type 0
HasMetaRow schema rows = Contains (map meta_shown rows) (integer 1 ∷ integer schema ∷ [])

-- how it stands there; IsAlone says that meta has just this row
abbrev pub Stands : ℕ → Type 0 → List Row → MetaRow → Type 0
Stands schema IsAlone rows Alone = IsAlone
Stands schema IsAlone rows WithOthers = HasMetaRow schema rows × ¬ IsAlone
Stands schema IsAlone rows Missing = ¬ HasMetaRow schema rows

-- that, by whether the row was found, and whether any other was
abbrev pub standing : Bool → Bool → MetaRow
standing false others = Missing
standing true false = Alone
standing true true = WithOthers

-- the query shows a row, or none
abbrev pub IsShown : List ℕ → State → State → Bool → Type 0
IsShown text old new false = Shown text [] old new []
IsShown text old new true = (row : Row) × (rows : List Row) × Shown text [] old new (row ∷ rows)

-- it finds such a thing in the database of a desk, in which the rowids rise
abbrev pub FindsRisen : {Q A F : Type 0} → (Database → A → Type 0) → (Q → State) → Q → Q
    → Result A F → Type 0
FindsRisen such shows old new result = IsUsable (shows new) → IsDeskSchema (shows old).now.schema
    → IsRising (shows old).now → IfOk result (such (shows old).now)
