use Rattle.canary_wire.proofs.CrowdLemmas.{comes, has_turn, goes}
use Rattle.canary_wire.proofs.laws.crowds.Goals as goal

pub returns-clause-comes : goal.returns-clause-comes
returns-clause-comes c = comes

pub returns-clause-turn : goal.returns-clause-turn
returns-clause-turn c = has_turn

pub returns-clause-goes : goal.returns-clause-goes
returns-clause-goes c = goes
