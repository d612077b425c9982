use Rattle.std.proofs.Common.{◌≡◌, map, take}
use Rattle.canary_tables_read.proofs.from_row.all.Given as goal

abbrev pub invariant-loop-row : goal.invariant-loop-row
invariant-loop-row g l = map g.R.FromRow.cells l.all ≡ map (g.R.FromRow.whole l.name) (take l.row-index l.rows)
