-- What a read does, and what it finds.
use Rattle.std.specs.Prelude.{◌≡◌, ℕ, min, List, Option, map, slice_get, Result, IfOk}
use Rattle.sqlite.specs.State.{State}
use Rattle.sqlite_value.specs.Order.{Row}
use Rattle.canary_tables_rows.specs.Tables.{Tables}
use Rattle.canary_tables_schema.specs.Stores.{IsUsable, Stores}

-- nothing is changed
abbrev pub IsSame : State → State → Type 0
IsSame old new = IsUsable new → IsUsable old × (new.now ≡ old.now)

-- if the reader can still be used, it finds such a value in the tables
abbrev pub Finds : {Q A F : Type 0} → (Tables → A → Type 0) → (Q → State) → Q → Q
    → Result A F → Type 0
Finds such shows old new result =
    IsUsable (shows new) → (t : Tables) → Stores (shows old) t → IfOk result (such t)

-- it finds this value in the tables
abbrev pub Gives : {Q A F : Type 0} → (Tables → A) → (Q → State) → Q → Q → Result A F
    → Type 0
Gives told shows old new = Finds (λ t found. found ≡ told t) shows old new

-- it finds this count, as SQLite counts
abbrev pub Counts : {Q F : Type 0} → (Tables → ℕ) → (Q → State) → Q → Q → Result ℕ F → Type 0
Counts told shows old new = Gives (λ t. min (told t) 9223372036854775807) shows old new

abbrev pub first : {A : Type 0} → List A → Option A
first xs = slice_get xs 0

-- each row that a query shows gives the cells of one of these
abbrev pub TellsCells : {X : Type 0} → (X → Row) → (Row → Row) → List X → List Row → Type 0
TellsCells cells whole all rows = map whole rows ≡ map cells all
