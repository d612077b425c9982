use Rattle.std.proofs.Common.{◌≡◌, map, take}
use Rattle.canary_migrate.specs.Migrated.{first_of}
use Rattle.canary_migrate.proofs.named.first_of_each.Given as goal

abbrev pub invariant-loop-name : goal.invariant-loop-name
invariant-loop-name l = l.revisions ≡ map first_of (take l.name-index l.names)
