use Rattle.canary_plan.proofs.LineLemmas.{reads_back}
use Rattle.canary_plan.proofs.laws.one_event.Goals as goal

pub returns : goal.returns
returns c = reads_back
