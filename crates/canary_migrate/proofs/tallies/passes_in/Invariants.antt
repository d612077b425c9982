use Rattle.std.proofs.Common.{◌≡◌, take}
use Rattle.std.specs.List.{suffix_len}
use Rattle.canary_migrate.specs.Migrated.{is_passed}
use Rattle.canary_migrate.proofs.tallies.passes_in.Given as goal

abbrev pub invariant-loop-row : goal.invariant-loop-row
invariant-loop-row l = l.passes ≡ suffix_len is_passed (take l.row-index l.rows)
