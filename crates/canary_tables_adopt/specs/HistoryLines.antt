-- Lines of a service's history, read of rows.
use Rattle.std.specs.Prelude.{◌≡◌, ℕ, List, length, take, drop, Some}
use Rattle.std.specs.List.{AllByRecursion}
use Rattle.canary_plan.specs.declared.line.Line.{Line}
use Rattle.canary_tables_rows.specs.declared.rows.HistoryRow.{HistoryRow}
use Rattle.canary_tables_rows.specs.Tables.{Tables}
use Rattle.canary_tables_contents.specs.Values.{line_of_row}
use Rattle.canary_tables_read.specs.Chosen.{lines_of}
use Rattle.canary_tables_adopt.specs.OfService.{line_words}

-- the row is read as a line, which has the row's words
pub record IsLineRow (row : HistoryRow) : Type 0 where
  pub line : Line
  pub read : line_of_row row ≡ Some line
  pub words : line_words line ≡ row.line

-- each row of the service's history is a line's
abbrev pub AreLines : List ℕ → Tables → Type 0
AreLines name t = AllByRecursion IsLineRow (lines_of name t)

-- the next rows, so many at most
abbrev pub lines_after : List ℕ → ℕ → ℕ → Tables → List HistoryRow
lines_after name most count t = take most (drop count (lines_of name t))

-- they are lines', and so many
pub record IsPageOfLines (name : List ℕ) (most from : ℕ) (t : Tables) (count : ℕ) : Type 0 where
  pub lines : AllByRecursion IsLineRow (lines_after name most from t)
  pub so_many : count ≡ length (lines_after name most from t)
