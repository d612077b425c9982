use Rattle.canary_once.proofs.Lawful.{runs_on}
use Rattle.canary_once.proofs.laws.running_on.Goals as goal

pub returns : goal.returns
returns c = runs_on
