use Rattle.canary_wire.proofs.CutLaw.{cut_unique}
use Rattle.canary_wire.proofs.EndLaw.{cut_ends}
use Rattle.canary_wire.proofs.laws.one_cut.Goals as goal

pub returns-clause-messages : goal.returns-clause-messages
returns-clause-messages c = cut_unique

pub returns-clause-ends : goal.returns-clause-ends
returns-clause-ends c = cut_ends
