use Rattle.std.proofs.Common.{◌≡◌, drop}
use Rattle.std.specs.FinMap.{get}
use Rattle.canary_plan.specs.PlanRefusals.{is_endless}
use Rattle.canary_plan.proofs.analysis.is_endless.Given as goal

-- what is left says what the whole says
abbrev pub invariant-loop-name : goal.invariant-loop-name
invariant-loop-name l = is_endless (get l.known) (drop l.name-index l.names) ≡ is_endless (get l.known) l.names
