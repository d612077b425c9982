use Rattle.std.proofs.Common.{◌≡◌, drop}
use Rattle.canary_check.specs.Taken.{names_twice}
use Rattle.canary_check.proofs.alone.names_twice.Given as goal

-- what is left says what the whole says
abbrev pub invariant-loop-index : goal.invariant-loop-index
invariant-loop-index l = names_twice (drop l.index l.entries) ≡ names_twice l.entries
