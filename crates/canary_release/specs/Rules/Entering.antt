-- Entering a step or the end, and aborting.
use Rattle.std.specs.Prelude.{ℕ, ◌==◌, ◌&&◌, nat_le, not, Bool, true, false, if◌then◌else◌, length, slice_get, Option, Some, None}
use Rattle.canary_plan.specs.declared.step.Step.{Step}
use Rattle.canary_plan.specs.declared.step.Step.TheVariants.{SetWeight, Pause, Analysis}
use Rattle.canary_plan.specs.declared.service.Background.{Background}
use Rattle.canary_plan.specs.declared.line.LineEvent.TheVariants.{BackgroundOpened, WeightEntered, PauseEntered, TimedPauseEntered, AnalysisEntered, Finished}
use Rattle.canary_release.specs.declared.state.ReleaseState.TheVariants.{Aborted, Done}
use Rattle.canary_release.specs.declared.state.ServiceState.{ServiceState}
use Rattle.canary_release.specs.Evolutions.{Evolution, with_service_state, tell, next_run, open_run, end_open_runs}

-- both holds are cleared
abbrev pub without_holds : ServiceState → ServiceState
without_holds s = record s { step_hold = false; background_hold = false }

-- the release is done, and its version is the stable one
abbrev pub done : ServiceState → ServiceState
done s = record (without_holds s) { stable = s.version; state = Done }

-- the index after the last step: open runs are ended, and the release is done
abbrev pub finish : Evolution → ℕ → Evolution
finish c at =
    let ended = end_open_runs c at in
    tell (with_service_state ended (done ended.service)) at (Finished ended.service.version)

-- there is a background analysis from that step on, which wasn't started in this attempt
abbrev pub begins_background : Option Background → ℕ → Bool → Bool
begins_background None i started = false
begins_background (Some b) i started = nat_le b.starting_step i && not started

-- the background run is opened
abbrev pub begin_background : Evolution → ℕ → Evolution
begin_background c at =
    tell (open_run (with_service_state c (record c.service { background = true })) None at) at
    (BackgroundOpened (next_run c))

-- the background run is opened if it begins at step i
abbrev pub open_background : Evolution → ℕ → ℕ → Evolution
open_background c i at =
    if begins_background c.service.strategy.background i c.service.background
    then begin_background c at
    else c

-- the step's line, and its run if it is an analysis
abbrev pub show_step : Evolution → Option Step → ℕ → ℕ → Evolution
show_step c (Some (SetWeight percent)) i at = tell c at (WeightEntered i percent)
show_step c (Some (Pause None)) i at = tell c at (PauseEntered i)
show_step c (Some (Pause (Some seconds))) i at = tell c at (TimedPauseEntered i seconds)
show_step c (Some (Analysis names)) i at =
    tell (open_run c (Some i) at) at (AnalysisEntered i (next_run c))
show_step c None i at = c

-- entering step i at a moment, or the end if i is the number of steps
abbrev pub enter : Evolution → ℕ → ℕ → Evolution
enter c i at =
    let there = with_service_state c (record c.service { step = i; entered = at }) in
    if i == length c.service.strategy.steps
    then finish there at
    else show_step (open_background there i at) (slice_get c.service.strategy.steps i) i at

-- the release is aborted: holds are cleared, open runs are ended, and the step stays
abbrev pub abort : Evolution → ℕ → Evolution
abort c at =
    end_open_runs (with_service_state c (record (without_holds c.service) { state = Aborted })) at
