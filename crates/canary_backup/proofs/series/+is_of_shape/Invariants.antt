use Rattle.std.proofs.Common.{length}
use Rattle.canary_backup.proofs.series.+is_of_shape.Given as goal

abbrev pub decreases-is_of_shape : goal.decreases-is_of_shape
decreases-is_of_shape l = length l.shape.now
