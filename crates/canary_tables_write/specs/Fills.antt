-- What is written when the first schema's rows become a desk's.
use Rattle.std.specs.Prelude.{◌≡◌, ◌++◌, ℕ, List, [], ◌∷◌, map, IsTrue, Result, OnOk}
use Rattle.sqlite.specs.Order.{Row, column}
use Rattle.sqlite.specs.State.{State, HasCleanDisk}
use Rattle.sqlite.specs.Effect.{IsDatabase}
use Rattle.sqlite.specs.declared.error.Error.{Error}
use Rattle.canary_tables_rows.specs.declared.rows.RevisionRow.{RevisionRow}
use Rattle.canary_tables_rows.specs.declared.rows.BindingRow.{BindingRow}
use Rattle.canary_tables_rows.specs.declared.rows.TallyRow.{TallyRow}
use Rattle.canary_tables_rows.specs.Tables.{Tables}
use Rattle.canary_tables_schema.specs.Cells.{meta_rows, integer}
use Rattle.canary_tables_schema.specs.Layout.{moved}
use Rattle.canary_tables_schema.specs.Remakes.{AreKept}
use Rattle.canary_tables_schema.specs.Schema.{schema_at}
use Rattle.canary_tables_schema.specs.Stores.{IsReady}

-- INSERT: these rows more, after the others

abbrev pub with_revisions : List RevisionRow → Tables → Tables
with_revisions rows t = record t { revisions = t.revisions ++ rows }

abbrev pub with_bindings : List BindingRow → Tables → Tables
with_bindings rows t = record t { bindings = t.bindings ++ rows }

abbrev pub with_tallies : List TallyRow → Tables → Tables
with_tallies rows t = record t { tallies = t.tallies ++ rows }

-- inside a transaction it leaves what is a database one
abbrev pub StaysSound : {A : Type 0} → State → State → Result A Error → Type 0
StaysSound old new result =
    HasCleanDisk new → (t : Tables) → IsReady old t → IsDatabase old.now
    → OnOk result (IsDatabase new.now)

-- all trees of a desk that was of the first schema, but for meta's and that of places counted
abbrev pub trees_but_meta : List ℕ
trees_but_meta = 1 ∷ 3 ∷ 7 ∷ 9 ∷ 13 ∷ 16 ∷ 17 ∷ 19 ∷ 21 ∷ []

-- the one row of meta is a desk's now, and these trees are as they were
pub record IsNumberedAnew (old new : State) : Type 0 where
  pub live : IsTrue new.in_transaction
  pub schema : new.now.schema ≡ schema_at moved
  pub sound : IsDatabase new.now
  pub meta : new.now.trees 0 ≡ meta_rows
  pub kept : AreKept trees_but_meta old.now.trees new.now.trees

-- there is one row of meta, whose id is 1
abbrev pub HasOneId : List Row → Type 0
HasOneId rows = map (λ (row : Row). column row 0) rows ≡ integer 1 ∷ []

-- so inside a transaction, over a desk's tables, whichever number meta has
abbrev pub NumbersAnew : {A : Type 0} → State → State → Result A Error → Type 0
NumbersAnew old new result =
    HasCleanDisk new → IsTrue old.in_transaction → old.now.schema ≡ schema_at moved
    → HasOneId (old.now.trees 0) → OnOk result (IsNumberedAnew old new)
