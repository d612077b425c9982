use Rattle.std.proofs.Common.{length}
use Rattle.canary_release.proofs.parts.+repeats_name.Given as goal

abbrev pub decreases-repeats_name : goal.decreases-repeats_name
decreases-repeats_name l = length l.metrics.now
