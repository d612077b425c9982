use Rattle.canary_client_laws.proofs.Arriving.{order_does_not_matter}
use Rattle.canary_client_laws.proofs.laws.arrivals.Goals as goal

pub returns : goal.returns
returns c = order_does_not_matter c.independence.ensures
