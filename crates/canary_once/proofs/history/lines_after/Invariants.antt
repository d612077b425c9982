use Rattle.std.proofs.Common.{◌≡◌, drop}
use Rattle.canary_once.specs.Showing.{lines_after}
use Rattle.canary_once.proofs.history.lines_after.Given as goal

-- what is left leads to where all effects lead
abbrev pub invariant-loop-effect : goal.invariant-loop-effect
invariant-loop-effect l = lines_after l.lines (drop l.effect-index l.effects) ≡ lines_after l.fn.history l.effects
