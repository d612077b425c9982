use Rattle.std.proofs.Common.{◌≤◌, length, take}
use Rattle.canary_agent.specs.Reports.{AreEntriesOf}
use Rattle.canary_agent.proofs.reporting.entries_of.Given as goal

abbrev pub invariant-loop-place : goal.invariant-loop-place
invariant-loop-place l =
    AreEntriesOf l.served (take l.place l.taken) l.entries × (length l.entries ≤ 32)
