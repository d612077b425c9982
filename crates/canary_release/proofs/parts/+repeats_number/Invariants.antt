use Rattle.std.proofs.Common.{length}
use Rattle.canary_release.proofs.parts.+repeats_number.Given as goal

abbrev pub decreases-repeats_number : goal.decreases-repeats_number
decreases-repeats_number l = length l.runs.now
