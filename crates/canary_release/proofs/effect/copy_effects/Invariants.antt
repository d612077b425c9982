use Rattle.std.proofs.Common.{◌≡◌, take}
use Rattle.canary_release.proofs.effect.copy_effects.Given as goal

-- those so far are copied
abbrev pub invariant-loop-effect : goal.invariant-loop-effect
invariant-loop-effect l = l.copies ≡ take l.effect-index l.effects
