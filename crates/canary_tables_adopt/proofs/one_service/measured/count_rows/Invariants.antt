use Rattle.std.proofs.Common.{map, take}
use Rattle.canary_tables_contents.specs.Services.{metrics_of_runs}
use Rattle.canary_tables_read.specs.Places.{row_of}
use Rattle.canary_tables_adopt.specs.Measured.{AreCountedTo}
use Rattle.canary_tables_adopt.proofs.one_service.measured.count_rows.Given as goal

-- the rows so far are counted
abbrev pub invariant-loop-placed : goal.invariant-loop-placed
invariant-loop-placed l = AreCountedTo (metrics_of_runs l.runs) l.fn.first (map row_of (take l.placed-index l.rows)) l.counts
