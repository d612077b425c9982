use Rattle.std.proofs.Common.{◌≡◌, map, take}
use Rattle.canary_migrate.specs.Migrated.{first_revision}
use Rattle.canary_migrate.proofs.fill.revisions_of.Given as goal

abbrev pub invariant-loop-template : goal.invariant-loop-template
invariant-loop-template l = l.rows ≡ map first_revision (take l.template-index l.templates)
