use Rattle.std.proofs.Common.{◌≡◌, map, take}
use Rattle.canary_tables_rows.specs.declared.rows.TallyRow.{TallyRow}
use Rattle.canary_tables_adopt.proofs.one_service.runs.counts_of.Given as goal

-- the counts of the rows so far
abbrev pub invariant-loop-row : goal.invariant-loop-row
invariant-loop-row l = l.found ≡ map (λ (row : TallyRow). row.counts) (take l.row-index l.rows)
