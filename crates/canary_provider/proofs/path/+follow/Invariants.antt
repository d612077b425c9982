use Rattle.std.proofs.Common.{length}
use Rattle.canary_provider.proofs.path.+follow.Given as goal

abbrev pub decreases-follow : goal.decreases-follow
decreases-follow l = length l.steps.now
