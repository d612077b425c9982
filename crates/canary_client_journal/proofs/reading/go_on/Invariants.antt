use Rattle.std.proofs.Common.{◌≡◌, drop}
use Rattle.canary_client_journal.specs.Readings.{goes_on}
use Rattle.canary_client_journal.proofs.reading.go_on.Given as goal

abbrev pub invariant-loop-text : goal.invariant-loop-text
invariant-loop-text l = goes_on l.journal (drop l.text-index l.texts) ≡ goes_on l.fn.before l.texts
