use Rattle.std.proofs.Common.{◌≡◌, ◌++◌, drop, filter}
use Rattle.canary_plan.specs.Plans.{distinct}
use Rattle.canary_plan.proofs.Distinct.{is_unseen}
use Rattle.canary_plan.proofs.analysis_parts.distinct.Given as goal

-- those so far, with those of what is left that were not seen, are all
abbrev pub invariant-loop-revision : goal.invariant-loop-revision
invariant-loop-revision l = l.found ++ filter (is_unseen l.seen) (distinct (drop l.revision-index l.revisions)) ≡ distinct l.revisions
