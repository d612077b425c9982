use Rattle.std.proofs.Common.{◌≡◌, length}
use Rattle.canary_argo.specs.Tokens.{unblanked}
use Rattle.canary_argo.proofs.lexer.unblanked.Given as goal

-- what is left comes to what the whole text comes to
abbrev pub invariant-loop-rest : goal.invariant-loop-rest
invariant-loop-rest l = unblanked l.rest ≡ unblanked l.text

abbrev pub decreases-loop-rest : goal.decreases-loop-rest
decreases-loop-rest l = length l.rest
