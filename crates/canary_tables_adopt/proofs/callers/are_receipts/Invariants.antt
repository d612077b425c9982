use Rattle.std.proofs.Common.{◌↔◌, drop}
use Rattle.canary_tables_adopt.specs.Receipts.{AreReceipts}
use Rattle.canary_tables_adopt.proofs.callers.are_receipts.Given as goal

-- what is left says what the whole says
abbrev pub invariant-loop-row : goal.invariant-loop-row
invariant-loop-row l = AreReceipts l.number l.last (drop l.row-index l.rows) ↔ AreReceipts l.before l.last l.rows
