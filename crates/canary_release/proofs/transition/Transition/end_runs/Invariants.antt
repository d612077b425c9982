use Rattle.std.proofs.Common.{◌≡◌, drop}
use Rattle.canary_release.specs.Evolutions.{end_runs}
use Rattle.canary_release.specs.Stored.{evolution_of, run_total}
use Rattle.canary_release.proofs.transition.Transition.end_runs.Given as goal

-- the rest of the runs ended leaves what all of them ended leave
abbrev pub invariant-loop-run : goal.invariant-loop-run
invariant-loop-run l =
    (end_runs l.at (evolution_of l.transition) (drop l.run-index l.runs) ≡ end_runs l.at (evolution_of l.fn.self) l.runs) × (l.transition.service ≡ l.fn.self.service) × (run_total l.transition ≡ run_total l.fn.self)
