use Rattle.std.proofs.Common.{rules}
use Rattle.canary_check.proofs.StandIns.{plain_is}
use Rattle.canary_check.proofs.alone.plain_metric.Goals as goal

pub returns : goal.returns
returns c = plain_is c.args.name c.unwrap.result _ (search rules)
