use Rattle.std.proofs.Common.{◌≡◌, drop, false}
use Rattle.canary_argo.specs.Grouping.{are_closed}
use Rattle.canary_argo.proofs.items.are_closed.Given as goal

-- the groups that are left say what all of them say
abbrev pub invariant-loop-item : goal.invariant-loop-item
invariant-loop-item l = are_closed l.after_not (drop l.item-index l.items) ≡ are_closed false l.items
