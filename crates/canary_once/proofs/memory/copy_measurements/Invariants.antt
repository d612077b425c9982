use Rattle.std.proofs.Common.{◌≡◌, take}
use Rattle.canary_once.proofs.memory.copy_measurements.Given as goal

-- those so far are copied
abbrev pub invariant-loop-recorded : goal.invariant-loop-recorded
invariant-loop-recorded l = l.copies ≡ take l.recorded-index l.all
