use Rattle.std.proofs.Common.{rules}
use Rattle.canary_plan.proofs.Analyses.{one_step_more}
use Rattle.canary_plan.proofs.analysis.step_analyses.Goals as goal

pub loop-step-preserved : goal.loop-step-preserved
loop-step-preserved c =
    one_step_more c.loop-step.found _ c.args.steps.now c.loop-step.step-index c.step-item.result c.in_ok-found.ensures c.loop-step.invariant c.step-item.is (search rules)
