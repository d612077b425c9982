use Rattle.std.proofs.Common.{◌↔◌, drop}
use Rattle.std.specs.List.{AllByRecursion}
use Rattle.canary_tables_adopt.specs.HistoryLines.{IsLineRow}
use Rattle.canary_tables_adopt.proofs.one_service.histories.are_lines.Given as goal

-- what is left says what the whole says
abbrev pub invariant-loop-row : goal.invariant-loop-row
invariant-loop-row l = AllByRecursion IsLineRow (drop l.row-index l.rows) ↔ AllByRecursion IsLineRow l.rows
