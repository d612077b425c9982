use Rattle.std.proofs.Common.{◌≡◌, map, take, Some}
use Rattle.canary_tables_read.proofs.held.all.Given as goal

abbrev pub invariant-loop-row : goal.invariant-loop-row
invariant-loop-row g l = map Some l.all ≡ map g.R.Held.held (take l.row-index l.rows)
