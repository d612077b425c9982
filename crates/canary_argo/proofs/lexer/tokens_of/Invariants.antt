use Rattle.std.proofs.Common.{◌++◌, List, length}
use Rattle.canary_argo.specs.declared.condition.ArgoToken.{ArgoToken}
use Rattle.canary_argo.specs.Tokens.{unblanked, HasTokens}
use Rattle.canary_argo.proofs.lexer.tokens_of.Given as goal

-- whatever tokens the rest has, the text has them after those so far
abbrev pub invariant-loop-rest : goal.invariant-loop-rest
invariant-loop-rest l = (ts : List ArgoToken) → HasTokens l.rest ts → HasTokens (unblanked l.text) (l.tokens.items ++ ts)

abbrev pub decreases-loop-rest : goal.decreases-loop-rest
decreases-loop-rest l = length l.rest
