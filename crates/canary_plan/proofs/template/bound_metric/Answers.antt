use Rattle.canary_plan.proofs.Settling.{within_limits}
use Rattle.canary_plan.proofs.template.bound_metric.Goals as goal

pub metric_of-requires : goal.metric_of-requires
metric_of-requires c = within_limits c.args.dry_run.now c.args.spec.now
