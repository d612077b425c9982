use Rattle.std.proofs.Common.{◌≡◌, filter, take}
use Rattle.canary_tables_read.specs.Sorts.{is_open}
use Rattle.canary_tables_read.proofs.runs.open_among.Given as goal

abbrev pub invariant-loop-run : goal.invariant-loop-run
invariant-loop-run l = l.open ≡ filter is_open (take l.run-index l.runs)
