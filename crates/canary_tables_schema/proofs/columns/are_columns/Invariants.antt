use Rattle.std.proofs.Common.{◌≡◌, ◌↔◌, drop}
use Rattle.canary_tables_schema.specs.Known.{columns_of}
use Rattle.canary_tables_schema.proofs.columns.are_columns.Given as goal

abbrev pub invariant-loop-i : goal.invariant-loop-i
invariant-loop-i l = (l.columns ≡ columns_of l.layouts) ↔ (drop l.i l.columns ≡ columns_of (drop l.i l.layouts))
