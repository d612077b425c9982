use Rattle.canary_once.proofs.Settled.{new_are_of_the_machine, each_once}
use Rattle.canary_once.proofs.laws.settled_requests.Goals as goal

pub returns : goal.returns
returns c = record { machine = new_are_of_the_machine; once = each_once }
