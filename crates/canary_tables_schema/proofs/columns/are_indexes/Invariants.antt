use Rattle.std.proofs.Common.{◌≡◌, ◌↔◌, drop}
use Rattle.canary_tables_schema.specs.Known.{indexes_of}
use Rattle.canary_tables_schema.proofs.columns.are_indexes.Given as goal

abbrev pub invariant-loop-i : goal.invariant-loop-i
invariant-loop-i l = (l.indexes ≡ indexes_of l.layouts) ↔ (drop l.i l.indexes ≡ indexes_of (drop l.i l.layouts))
