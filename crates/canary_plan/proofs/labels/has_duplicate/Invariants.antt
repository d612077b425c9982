use Rattle.std.proofs.Common.{◌≡◌, drop}
use Rattle.canary_plan.specs.PlanRefusals.{has_duplicate}
use Rattle.canary_plan.proofs.Seen.{is_seen, repeats}
use Rattle.canary_plan.proofs.labels.has_duplicate.Given as goal

-- what was seen and what is left say what the whole says
abbrev pub invariant-loop-name : goal.invariant-loop-name
invariant-loop-name l = repeats (is_seen l.seen) (drop l.name-index l.names) ≡ has_duplicate l.names
