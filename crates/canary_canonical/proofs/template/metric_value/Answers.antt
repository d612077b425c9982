use Rattle.std.proofs.Common.{rules}
use Rattle.canary_canonical.specs.Laws.{keeps_metric}
use Rattle.canary_canonical.proofs.template.metric_value.Goals as goal

pub returns-clause-kept : goal.returns-clause-kept
unfolding keeps_metric
returns-clause-kept c = search rules
