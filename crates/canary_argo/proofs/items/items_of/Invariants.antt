use Rattle.std.proofs.Common.{◌≡◌, ◌++◌, length}
use Rattle.canary_argo.specs.Grouping.{all_tokens}
use Rattle.canary_argo.proofs.items.items_of.Given as goal

-- the groups so far, and the tokens that are left, are the tokens
abbrev pub invariant-loop-rest : goal.invariant-loop-rest
invariant-loop-rest l = l.tokens ≡ all_tokens l.items.items ++ l.rest

abbrev pub decreases-loop-rest : goal.decreases-loop-rest
decreases-loop-rest l = length l.rest
