use Rattle.std.proofs.Common.{length}
use Rattle.canary_release.proofs.parts.+are_steps_bound.Given as goal

abbrev pub decreases-are_steps_bound : goal.decreases-are_steps_bound
decreases-are_steps_bound l = length l.steps.now
