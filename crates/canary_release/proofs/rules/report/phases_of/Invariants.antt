use Rattle.std.proofs.Common.{◌≡◌, take, map}
use Rattle.canary_release.specs.declared.effect.Recorded.{Recorded}
use Rattle.canary_release.proofs.rules.report.phases_of.Given as goal

-- those so far
abbrev pub invariant-loop-measurement : goal.invariant-loop-measurement
invariant-loop-measurement l = l.phases ≡ map (λ (x : Recorded). x.phase) (take l.measurement-index l.measurements)
