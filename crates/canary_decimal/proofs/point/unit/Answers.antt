use Rattle.canary_decimal.proofs.PointLemmas.{unit_is}
use Rattle.canary_decimal.proofs.point.unit.Goals as goal

pub returns-clause-value : goal.returns-clause-value
returns-clause-value c = (unit_is c.args.places c.with_zeros.result c.requires c.with_zeros.ensures).0

pub returns-clause-limit : goal.returns-clause-limit
returns-clause-limit c = (unit_is c.args.places c.with_zeros.result c.requires c.with_zeros.ensures).1.0

pub returns-clause-some : goal.returns-clause-some
returns-clause-some c = (unit_is c.args.places c.with_zeros.result c.requires c.with_zeros.ensures).1.1
