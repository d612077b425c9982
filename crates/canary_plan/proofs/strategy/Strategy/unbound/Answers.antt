use Rattle.std.proofs.lemmas.Result.{IfOk-weaker}
use Rattle.canary_plan.proofs.Fitting.{unbound_of}
use Rattle.canary_plan.proofs.strategy.Strategy.unbound.Goals as goal

pub returns : goal.returns
returns c = IfOk-weaker c.bound_to-2.result _ _ (λ bound e. unbound_of _ c.args.self.now bound c.new.ensures e) c.bound_to-2.ensures
