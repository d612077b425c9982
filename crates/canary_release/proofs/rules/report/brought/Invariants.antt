use Rattle.std.proofs.Common.{◌≡◌, ◌++◌, drop}
use Rattle.canary_release.specs.Rules.Reports.{brought}
use Rattle.canary_release.proofs.rules.report.brought.Given as goal

-- those so far, and those of the rest
abbrev pub invariant-loop-entry : goal.invariant-loop-entry
invariant-loop-entry l = l.list ++ brought l.metrics l.run (drop l.entry-index l.entries) ≡ brought l.metrics l.run l.entries
