use Rattle.std.proofs.Common.{◌≡◌, take}
use Rattle.canary_plan.proofs.step.copy_steps.Given as goal

-- those so far are copied
abbrev pub invariant-loop-step : goal.invariant-loop-step
invariant-loop-step l = l.copies ≡ take l.step-index l.steps
