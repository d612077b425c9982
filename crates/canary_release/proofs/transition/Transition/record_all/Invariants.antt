use Rattle.std.proofs.Common.{◌≡◌, drop}
use Rattle.std.specs.Prelude.{true}
use Rattle.canary_release.specs.Evolutions.{runs_now}
use Rattle.canary_release.specs.Rules.Recording.{have_room}
use Rattle.canary_release.specs.Rules.Reports.{record_all}
use Rattle.canary_release.specs.Stored.{evolution_of, run_total}
use Rattle.canary_release.proofs.transition.Transition.record_all.Given as goal

-- the rest recorded leaves what all of them leave, and there is room for the rest
abbrev pub invariant-loop-recorded : goal.invariant-loop-recorded
invariant-loop-recorded l =
    (record_all (evolution_of l.transition) (drop l.recorded-index l.measurements) ≡ record_all (evolution_of l.fn.self) l.measurements)
    × (have_room (runs_now (evolution_of l.transition)) (drop l.recorded-index l.measurements) ≡ true)
    × (l.transition.service ≡ l.fn.self.service)
    × (run_total l.transition ≡ run_total l.fn.self)
