use Rattle.canary_decimal.proofs.PointLemmas.{IsSoFar}
use Rattle.canary_decimal.proofs.point.fraction.Given as goal

-- the digits so far
abbrev pub invariant-loop : goal.invariant-loop
invariant-loop l = IsSoFar l.text.bytes l.rest l.part l.places l.counter
