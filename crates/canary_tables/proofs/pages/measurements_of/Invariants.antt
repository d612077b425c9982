use Rattle.std.proofs.Common.{◌≡◌, Some, map, take}
use Rattle.canary_tables_read.specs.Places.{row_of}
use Rattle.canary_tables_contents.specs.Values.{measurement_of_row}
use Rattle.canary_tables.proofs.pages.measurements_of.Given as goal

-- those so far are read
abbrev pub invariant-loop-placed : goal.invariant-loop-placed
invariant-loop-placed l = map Some l.page ≡ map measurement_of_row (map row_of (take l.placed-index l.rows))
