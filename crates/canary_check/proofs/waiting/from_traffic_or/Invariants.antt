use Rattle.std.proofs.Common.{◌≡◌, drop}
use Rattle.canary_check.specs.Waiting.{from_traffic_or}
use Rattle.canary_check.proofs.waiting.from_traffic_or.Given as goal

-- what is left says what the whole says
abbrev pub invariant-loop-index : goal.invariant-loop-index
invariant-loop-index l = from_traffic_or l.others (drop l.index l.steps) ≡ from_traffic_or l.others l.steps
