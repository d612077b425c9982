use Rattle.canary_once.proofs.Lawful.{none_is_ahead}
use Rattle.canary_once.proofs.laws.last_number.Goals as goal

pub returns : goal.returns
returns c = none_is_ahead
