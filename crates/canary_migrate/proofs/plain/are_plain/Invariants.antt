use Rattle.std.proofs.Common.{◌≡◌, drop}
use Rattle.std.specs.List.{list_all}
use Rattle.canary_migrate.specs.FirstContents.{is_plain_row}
use Rattle.canary_migrate.proofs.plain.are_plain.Given as goal

abbrev pub invariant-loop-row : goal.invariant-loop-row
invariant-loop-row l = list_all is_plain_row (drop l.row-index l.rows) ≡ list_all is_plain_row l.rows
