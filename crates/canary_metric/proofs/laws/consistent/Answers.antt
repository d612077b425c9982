use Rattle.canary_metric.proofs.SomeList.{list_where_consistent}
use Rattle.canary_metric.proofs.laws.consistent.Goals as goal

pub returns : goal.returns
returns c = list_where_consistent
