use Rattle.std.proofs.Common.{◌≡◌, drop}
use Rattle.canary_once.specs.Showing.{record_after}
use Rattle.canary_once.proofs.view_past.record_after.Given as goal

-- what is left leads to where all effects lead
abbrev pub invariant-loop-effect : goal.invariant-loop-effect
invariant-loop-effect l = record_after l.number l.record (drop l.effect-index l.effects) ≡ record_after l.number l.fn.found l.effects
