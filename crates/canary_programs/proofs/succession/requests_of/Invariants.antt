use Rattle.std.proofs.Common.{◌≡◌, ◌++◌}
use Rattle.std.specs.Vec.Iter.{into_iter_items}
use Rattle.canary_programs.specs.Successions.{requests_from}
use Rattle.canary_programs.proofs.succession.requests_of.Given as goal

-- the requests so far, with those of the commands that are left, are all
abbrev pub invariant-loop-command : goal.invariant-loop-command
invariant-loop-command l = l.requests ++ requests_from l.now l.number (into_iter_items l.command-iterator) ≡ requests_from l.now 1 l.fn.commands
