use Rattle.std.proofs.Common.{◌≡◌, map, take}
use Rattle.canary_tables_contents.specs.Values.{binding_row}
use Rattle.canary_migrate.proofs.named.rows_of.Given as goal

abbrev pub invariant-loop-revision : goal.invariant-loop-revision
invariant-loop-revision l = l.rows ≡ map (binding_row l.service l.run) (take l.revision-index l.revisions)
