use Rattle.std.proofs.Common.{rules}
use Rattle.std.specs.FinMap.{get}
use Rattle.canary_plan.proofs.Accepting.{accepted}
use Rattle.canary_plan.proofs.strategy.Strategy.check.Goals as goal

pub of-requires : goal.of-requires
of-requires c = accepted (get c.args.known.now) c.args.spec.now c.in_ok-checked.checked c.in_ok-checked.ensures (search rules)
