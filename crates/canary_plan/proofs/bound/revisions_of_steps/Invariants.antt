use Rattle.std.proofs.Common.{◌≡◌, take, flat_map}
use Rattle.canary_plan.specs.Plans.{revisions_if}
use Rattle.canary_plan.proofs.bound.revisions_of_steps.Given as goal

-- those of the analyses so far
abbrev pub invariant-loop-analysis : goal.invariant-loop-analysis
invariant-loop-analysis l = l.found ≡ flat_map revisions_if (take l.analysis-index l.steps)
