use Rattle.std.proofs.Common.{◌≡◌, length}
use Rattle.canary_tables_file.proofs.listing.layouts.Given as goal

abbrev pub invariant-loop-row : goal.invariant-loop-row
invariant-loop-row l = length l.all.items ≡ l.row-index
