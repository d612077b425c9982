use Rattle.canary_argo.proofs.Cutting.{unit_is}
use Rattle.canary_argo.proofs.translating.unit_of.Goals as goal

pub returns-clause-value : goal.returns-clause-value
returns-clause-value c = (unit_is c.args.places c.power_of.result c.requires c.power_of.ensures).0

pub returns-clause-some : goal.returns-clause-some
returns-clause-some c = (unit_is c.args.places c.power_of.result c.requires c.power_of.ensures).1
