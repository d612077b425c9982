use Rattle.std.proofs.Common.{◌≡◌, ◌+◌, length, drop}
use Rattle.std.specs.List.{sum_by}
use Rattle.canary_once.specs.declared.record.RunRecord.{RunRecord}
use Rattle.canary_tables_adopt.proofs.one_service.counts.tally_count.Given as goal

-- with those of the runs that are left, they are all
abbrev pub invariant-loop-run : goal.invariant-loop-run
invariant-loop-run l = l.count + sum_by (λ (r : RunRecord). length r.tallies) (drop l.run-index l.runs) ≡ sum_by (λ (r : RunRecord). length r.tallies) l.runs
