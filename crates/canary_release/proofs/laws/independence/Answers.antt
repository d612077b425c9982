use Rattle.canary_release.proofs.Apart.{are_independent}
use Rattle.canary_release.proofs.laws.independence.Goals as goal

pub returns : goal.returns
returns c = are_independent
