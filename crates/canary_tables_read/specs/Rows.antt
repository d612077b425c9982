-- What a query of no parameters shows.
use Rattle.std.specs.Prelude.{◌≡◌, ℕ, List, [], ◌∷◌, Result, Err, IfOk, OnOk, slice_index_or, Bool}
use Rattle.sqlite.specs.State.{State, Shown}
use Rattle.sqlite_value.specs.Order.{Row, column}
use Rattle.canary_tables_schema.specs.Cells.{integer}
use Rattle.canary_tables_schema.specs.Stores.{IsUsable}
use Rattle.canary_tables_read.specs.declared.fault.ReadFault.{ReadFault}
use Rattle.canary_tables_read.specs.declared.fault.ReadFault.TheVariants.{Broken}
use Rattle.canary_tables_read.specs.Meta.{IsShown}

-- it succeeds only if the query shows no row
abbrev pub ShowsNone : {Q A F : Type 0} → List ℕ → (Q → State) → Q → Q → Result A F → Type 0
ShowsNone text shows old new result =
    IsUsable (shows new) → OnOk result (Shown text [] (shows old) (shows new) [])

-- and finds something broken only if it shows one
abbrev pub ShowsSome : {Q A : Type 0} → List ℕ → (Q → State) → Q → Q → Result A ReadFault → Type 0
ShowsSome text shows old new result = IsUsable (shows new) → result ≡ Err Broken
    → (row : Row) × (rows : List Row) × Shown text [] (shows old) (shows new) (row ∷ rows)

-- it answers whether the query shows a row
abbrev pub ShowsAny : {Q F : Type 0} → List ℕ → (Q → State) → Q → Q → Result Bool F → Type 0
ShowsAny text shows old new result =
    IsUsable (shows new) → IfOk result (IsShown text (shows old) (shows new))

-- it gives the number that stands first
abbrev pub ShowsCount : {Q F : Type 0} → List ℕ → (Q → State) → Q → Q → Result ℕ F → Type 0
ShowsCount text shows old new result = IsUsable (shows new) → IfOk result (λ count.
    (rows : List Row) × Shown text [] (shows old) (shows new) rows
    × (column (slice_index_or rows 0 []) 0 ≡ integer count))
