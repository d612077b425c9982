use Rattle.canary_canonical.proofs.Backwards.{reads_back}
use Rattle.canary_canonical.proofs.laws.reads_back.Goals as goal

pub returns : goal.returns
returns c = reads_back
