use Rattle.canary_client_laws.proofs.Delivering.{delivers, asks_no_other}
use Rattle.canary_client_laws.proofs.laws.delivery.Goals as goal

pub returns-clause-delivers : goal.returns-clause-delivers
returns-clause-delivers c = delivers c.same_commands.ensures c.running_on.ensures

pub returns-clause-no_other : goal.returns-clause-no_other
returns-clause-no_other c = asks_no_other
