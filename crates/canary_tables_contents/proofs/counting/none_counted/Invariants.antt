use Rattle.std.proofs.Common.{◌≡◌, take}
use Rattle.canary_tables_contents.specs.Counting.{none_counted}
use Rattle.canary_tables_contents.specs.Services.{metrics_of_runs}
use Rattle.canary_tables_contents.proofs.counting.none_counted.Given as goal

-- those of the runs so far
abbrev pub invariant-loop-run : goal.invariant-loop-run
invariant-loop-run l = l.counts ≡ none_counted (metrics_of_runs (take l.run-index l.runs))
