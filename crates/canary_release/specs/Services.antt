-- A service: how it stands. Its status and its weight.
use Rattle.std.specs.Prelude.{ℕ, suc, ◌≤◌, ◌||◌, Bool, true, false, if◌then◌else◌, List, length, take, slice_get, Option, Some, None, unwrap_or}
use Rattle.std.specs.List.{filter_map, last_or}
use Rattle.canary_plan.specs.declared.step.Step.{Step}
use Rattle.canary_plan.specs.declared.step.Step.TheVariants.{SetWeight, Pause, Analysis}
use Rattle.canary_release.specs.declared.state.ServiceState.{ServiceState}
use Rattle.canary_release.specs.declared.state.ReleaseState.{ReleaseState}
use Rattle.canary_release.specs.declared.state.ReleaseState.TheVariants.{InProgress, Aborted, Done}
use Rattle.canary_release.specs.declared.state.Status.{Status}
use Rattle.canary_release.specs.declared.state.Status.TheVariants.{Healthy, Degraded, Paused, Progressing}

abbrev pub is_in_progress : ReleaseState → Bool
is_in_progress InProgress = true
is_in_progress Aborted = false
is_in_progress Done = false

abbrev pub is_aborted : ReleaseState → Bool
is_aborted Aborted = true
is_aborted InProgress = false
is_aborted Done = false

abbrev pub is_done : ReleaseState → Bool
is_done Done = true
is_done InProgress = false
is_done Aborted = false

abbrev pub is_held : ServiceState → Bool
is_held s = s.step_hold || s.background_hold

-- the present step, or none after the last
abbrev pub step_of : ServiceState → Option Step
step_of s = slice_get s.strategy.steps s.step

-- it stands on a step, or after the last
abbrev pub IsOnSteps : ServiceState → Type 0
IsOnSteps s = s.step ≤ length s.strategy.steps

abbrev pub is_pause : Option Step → Bool
is_pause (Some (Pause seconds)) = true
is_pause (Some (SetWeight percent)) = false
is_pause (Some (Analysis names)) = false
is_pause None = false

-- what a release shows, from its state, its holds and its step
abbrev pub status_as : ReleaseState → Bool → Option Step → Status
status_as Done held step = Healthy
status_as Aborted held step = Degraded
status_as InProgress held step = if held || is_pause step then Paused else Progressing

abbrev pub status : ServiceState → Status
status s = status_as s.state (is_held s) (step_of s)

-- the weight that a step sets
abbrev pub weight_set : Step → Option ℕ
weight_set (SetWeight percent) = Some percent
weight_set (Pause seconds) = None
weight_set (Analysis names) = None

-- 0 when aborted; 100 when done; else the last weight set at or before the present step, or 0
abbrev pub weight_as : ReleaseState → ℕ → List Step → ℕ
weight_as Aborted step steps = 0
weight_as Done step steps = 100
weight_as InProgress step steps =
    unwrap_or (last_or None (filter_map weight_set (take (suc step) steps))) 0

abbrev pub weight : ServiceState → ℕ
weight s = weight_as s.state s.step s.strategy.steps
