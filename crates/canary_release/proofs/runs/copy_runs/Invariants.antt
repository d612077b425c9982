use Rattle.std.proofs.Common.{◌≡◌, take}
use Rattle.canary_release.proofs.runs.copy_runs.Given as goal

-- those so far are copied
abbrev pub invariant-loop-run : goal.invariant-loop-run
invariant-loop-run l = l.copies ≡ take l.run-index l.runs
