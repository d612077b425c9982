use Rattle.std.proofs.Common.{◌≡◌, map, take}
use Rattle.canary_tables_read.proofs.first.all.Given as goal

abbrev pub invariant-loop-row : goal.invariant-loop-row
invariant-loop-row g l = map g.R.FromFirstRow.cells l.all ≡ take l.row-index l.rows
