-- Rows in the order of a number of theirs.
use Rattle.std.specs.Prelude.{◌≡◌, ℕ, Bool, true, List, is_none, take}
use Rattle.std.specs.Str.{bytes_eq}
use Rattle.std.specs.List.Sorted.{IsPermutation, IsNonDecreasingBy}
use Rattle.sqlite.specs.Tree.{IsAscending}
use Rattle.canary_tables_rows.specs.declared.rows.RunRow.{RunRow}
use Rattle.canary_tables_rows.specs.declared.rows.TallyRow.{TallyRow}

-- the same rows, so that no key is less than one before it
pub record Sorts {X : Type 0} (key : X → ℕ) (all found : List X) : Type 0 where
  pub same : IsPermutation all found
  pub ascend : IsNonDecreasingBy key found

abbrev pub number_of : RunRow → ℕ
number_of row = row.number

abbrev pub metric_of : TallyRow → ℕ
metric_of row = row.metric

abbrev pub is_run_of : List ℕ → RunRow → Bool
is_run_of service row = bytes_eq service row.service

abbrev pub is_open : RunRow → Bool
is_open row = is_none row.ending.closed

-- the first of the runs, so many, in an order in which no open run comes after a closed one
pub record IsFront (most : ℕ) (all found : List RunRow) : Type 0 where
  pub ordered : List RunRow
  pub same : IsPermutation all ordered
  pub open_first : IsAscending (λ x y. is_open y ≡ true → is_open x ≡ true) ordered
  pub front : found ≡ take most ordered
