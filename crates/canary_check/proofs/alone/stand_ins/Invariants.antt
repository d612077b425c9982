use Rattle.std.proofs.Common.{◌≡◌, drop}
use Rattle.std.specs.FinMap as map
use Rattle.canary_check.specs.Taken.{with_stand_ins}
use Rattle.canary_check.proofs.alone.stand_ins.Given as goal

-- with those that are left it is what it is to be
abbrev pub invariant-loop-name : goal.invariant-loop-name
invariant-loop-name l = with_stand_ins l.known (drop l.name-index l.names) ≡ with_stand_ins map.empty l.names
