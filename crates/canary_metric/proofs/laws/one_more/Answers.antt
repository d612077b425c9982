use Rattle.canary_metric.proofs.Counted.{counts-push}
use Rattle.canary_metric.proofs.laws.one_more.Goals as goal

pub returns : goal.returns
returns c = counts-push
