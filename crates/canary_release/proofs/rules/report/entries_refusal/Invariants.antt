use Rattle.std.proofs.Common.{◌≡◌, [], drop, take}
use Rattle.canary_release.specs.Rules.Reports.{entries_refusal}
use Rattle.canary_release.proofs.rules.report.entries_refusal.Given as goal

-- the entries so far are not refused
abbrev pub invariant-loop-index : goal.invariant-loop-index
invariant-loop-index l =
    entries_refusal l.metrics l.run l.now (take l.index l.entries) (drop l.index l.entries) ≡ entries_refusal l.metrics l.run l.now [] l.entries
