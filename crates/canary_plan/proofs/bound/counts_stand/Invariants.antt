use Rattle.std.proofs.Common.{◌≡◌, take, true}
use Rattle.canary_plan.specs.Fit.{have_counts}
use Rattle.canary_plan.proofs.bound.counts_stand.Given as goal

abbrev pub invariant-loop-metric : goal.invariant-loop-metric
invariant-loop-metric l = have_counts (take l.metric-index l.metrics) ≡ true
