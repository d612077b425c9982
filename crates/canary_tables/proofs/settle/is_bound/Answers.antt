use Rattle.canary_tables.proofs.Settling.{bound_said}
use Rattle.canary_tables.proofs.settle.is_bound.Goals as goal

pub returns-in-Service-clause-found : goal.returns-in-Service-clause-found
returns-in-Service-clause-found g c usable t has = bound_said c.args.settlement.now.receipt.command c.args.settlement.now.change c.in-Service.service c.in-Service.effects c.name.result t c.has_attempt.result c.in-Service.is c.name.ensures.value (c.has_attempt.ensures.found usable t has)
