use Rattle.std.proofs.Common.{◌≡◌, ◌++◌, take}
use Rattle.canary_plan.proofs.bound.with_revisions.Given as goal

-- those so far are added
abbrev pub invariant-loop-revision : goal.invariant-loop-revision
invariant-loop-revision l = l.found ≡ l.initial.found ++ take l.revision-index l.more
