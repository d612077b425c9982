use Rattle.std.proofs.Common.{◌≡◌, Some, map, take}
use Rattle.canary_tables_contents.specs.Values.{line_of_row}
use Rattle.canary_tables.proofs.pages.lines_of.Given as goal

-- those so far are read
abbrev pub invariant-loop-row : goal.invariant-loop-row
invariant-loop-row l = map Some l.lines ≡ map line_of_row (take l.row-index l.rows)
