use Rattle.std.proofs.Common.{arith}
use Rattle.canary_decimal.proofs.Digits.{one_more_zero}
use Rattle.canary_argo.proofs.translating.power_of.Goals as goal

pub loop-preserved : goal.loop-preserved
loop-preserved c =
    let more = one_more_zero 1 c.loop.counter c.loop.power c.loop.invariant in
    omega arith
