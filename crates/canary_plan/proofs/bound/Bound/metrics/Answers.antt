use Rattle.std.proofs.Common.{rules}
use Rattle.canary_plan.proofs.Fitting.{of_place}
use Rattle.canary_plan.proofs.bound.Bound.metrics.Goals as goal

pub returns-in-Some-clause-limit : goal.returns-in-Some-clause-limit
returns-in-Some-clause-limit c = of_place c.args.self.now c.args.step c.in-Some.analysis.now c.metrics.result.now c.analysis.ensures.fit (search rules) c.metrics.ensures.value
