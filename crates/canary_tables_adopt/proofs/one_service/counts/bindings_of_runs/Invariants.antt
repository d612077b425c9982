use Rattle.std.proofs.Common.{◌≡◌, ◌+◌, length, drop}
use Rattle.std.specs.List.{sum_by}
use Rattle.canary_plan.specs.Plans.{distinct}
use Rattle.canary_once.specs.declared.record.RunRecord.{RunRecord}
use Rattle.canary_tables_adopt.proofs.one_service.counts.bindings_of_runs.Given as goal

-- with those of the runs that are left, they are all
abbrev pub invariant-loop-run : goal.invariant-loop-run
invariant-loop-run l = l.count + sum_by (λ (r : RunRecord). length (distinct r.analysis.revisions)) (drop l.run-index l.runs) ≡ sum_by (λ (r : RunRecord). length (distinct r.analysis.revisions)) l.runs
