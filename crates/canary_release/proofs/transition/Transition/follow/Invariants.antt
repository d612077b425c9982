use Rattle.std.proofs.Common.{◌+◌, ◌-◌, ◌*◌, ◌≤◌, length}
use Rattle.canary_release.specs.Stored.{evolution_of, run_total}
use Rattle.canary_release.proofs.Loops.{IsOnChain}
use Rattle.canary_release.proofs.transition.Transition.follow.Given as goal

-- a move opens two runs at most
abbrev pub invariant-loop-moment : goal.invariant-loop-moment
invariant-loop-moment l = IsOnChain l.until (evolution_of l.fn.self) (evolution_of l.transition) × (run_total l.transition + 2 * (64 - l.transition.service.step) ≤ 2000128)

abbrev pub decreases-loop-moment : goal.decreases-loop-moment
decreases-loop-moment l = length l.initial.transition.service.strategy.steps - l.transition.service.step
