use Rattle.std.proofs.Common.{◌≡◌, ◌≤◌, ◌+◌, length, drop}
use Rattle.std.specs.FinMap.{get}
use Rattle.canary_plan.specs.Plans.{metrics_named}
use Rattle.canary_plan.proofs.analysis.are_metrics_of_run.Given as goal

-- those so far are counted, and those that are left are the others
abbrev pub invariant-loop-name : goal.invariant-loop-name
invariant-loop-name l = record {
  counted : l.count + length (metrics_named (get l.known) (drop l.name-index l.names)) ≡ length (metrics_named (get l.known) l.names);
  within : l.count ≤ 32;
}
