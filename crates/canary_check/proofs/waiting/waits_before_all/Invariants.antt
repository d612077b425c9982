use Rattle.std.proofs.Common.{◌≡◌, drop}
use Rattle.canary_check.specs.Waiting.{waits_before_all}
use Rattle.canary_check.proofs.waiting.waits_before_all.Given as goal

-- what is left says what the whole says
abbrev pub invariant-loop-step : goal.invariant-loop-step
invariant-loop-step l = waits_before_all (drop l.step-index l.steps) ≡ waits_before_all l.steps
