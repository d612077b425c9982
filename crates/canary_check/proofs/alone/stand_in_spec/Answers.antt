use Rattle.std.proofs.Common.{rules}
use Rattle.canary_check.proofs.StandIns.{stand_in_is}
use Rattle.canary_check.proofs.alone.stand_in_spec.Goals as goal

pub returns : goal.returns
returns c = stand_in_is c.args.name c.of-metrics.result c.of.result _ (search rules) (search rules)
