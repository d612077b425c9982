use Rattle.std.proofs.Common.{◌≡◌, ◌++◌, drop}
use Rattle.std.specs.FinMap.{get}
use Rattle.canary_plan.specs.Plans.{revisions_named}
use Rattle.canary_plan.proofs.bound.revisions_named.Given as goal

-- those so far, with those of the names that are left, are all
abbrev pub invariant-loop-name : goal.invariant-loop-name
invariant-loop-name l = l.revisions ++ revisions_named (get l.known) (drop l.name-index l.names) ≡ revisions_named (get l.known) l.names
