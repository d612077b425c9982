use Rattle.canary_release.proofs.Ticks.{ticks_only_pass_time}
use Rattle.canary_release.proofs.laws.ticks.Goals as goal

pub returns : goal.returns
returns c = ticks_only_pass_time
