use Rattle.std.proofs.Common.{length}
use Rattle.canary_release.proofs.parts.+some_is_named.Given as goal

abbrev pub decreases-some_is_named : goal.decreases-some_is_named
decreases-some_is_named l = length l.metrics.now
