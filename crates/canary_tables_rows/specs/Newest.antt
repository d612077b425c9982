-- The newest revision of a template.
use Rattle.std.specs.Prelude.{◌≡◌, ◌≤◌, ℕ, List, [], Option, Some, None, slice_get}
use Rattle.std.specs.List.{AllByRecursion}
use Rattle.canary_tables_rows.specs.declared.rows.RevisionRow.{RevisionRow}

-- the row is one of these, and none of them has a greater number
pub record IsGreatest (rows : List RevisionRow) (row : RevisionRow) : Type 0 where
  pub place : ℕ
  pub stands : slice_get rows place ≡ Some row
  pub greatest : AllByRecursion (λ (x : RevisionRow). x.revision ≤ row.revision) rows

-- the row of the newest of these revisions; none if there are none
abbrev pub IsNewest : List RevisionRow → Option RevisionRow → Type 0
IsNewest rows None = rows ≡ []
IsNewest rows (Some row) = IsGreatest rows row
