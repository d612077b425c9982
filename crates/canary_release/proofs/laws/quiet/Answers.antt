use Rattle.canary_release.proofs.Quiet.{time_measures_nothing}
use Rattle.canary_release.proofs.laws.quiet.Goals as goal

pub returns : goal.returns
returns c = time_measures_nothing
