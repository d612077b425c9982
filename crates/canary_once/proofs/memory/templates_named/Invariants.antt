use Rattle.std.proofs.Common.{◌≡◌, take}
use Rattle.canary_release.specs.Desks.{newest}
use Rattle.canary_once.specs.Contents.{known_named}
use Rattle.canary_once.proofs.memory.templates_named.Given as goal

-- those with one of the names so far are found
abbrev pub invariant-loop-name : goal.invariant-loop-name
invariant-loop-name l = l.found ≡ known_named (newest l.known) (take l.name-index l.names)
