use Rattle.std.proofs.Common.{◌≡◌, take}
use Rattle.canary_plan.proofs.report.copy_entries.Given as goal

-- the entries so far
abbrev pub invariant-loop-entry : goal.invariant-loop-entry
invariant-loop-entry l = l.copies ≡ take l.entry-index l.entries
