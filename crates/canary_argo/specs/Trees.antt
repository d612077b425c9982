-- The tree of a condition of Argo Rollouts. A bracket stands in the tree, so that the tree says how
-- it was spelled.
use Rattle.canary_argo.specs.declared.condition.ResultPart.{ResultPart}
use Rattle.canary_argo.specs.declared.condition.Test.{Test}

pub data Tree : Type 0 where
  Or : (a b : Tree) → Tree
  And : (a b : Tree) → Tree
  Not : (a : Tree) → Tree
  Bracket : (a : Tree) → Tree
  Compare : (test : Test) → Tree
  IsNaN : (place : ResultPart) → Tree
  IsInf : (place : ResultPart) → Tree
