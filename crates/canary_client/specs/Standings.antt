-- Why a service stands as it does, and the words by which `watch` ends.
use Rattle.std.specs.Prelude.{ℕ, ◌+◌, ◌||◌, ◌&&◌, List, Bool, true, false, if◌then◌else◌, Option, Some, None, codes}
use Rattle.std.specs.Str.{bytes_eq}
use Rattle.canary_plan.specs.declared.line.Line.{Line}
use Rattle.canary_plan.specs.declared.line.LineEvent.{LineEvent}
use Rattle.canary_plan.specs.declared.line.LineEvent.TheVariants as line
use Rattle.canary_client.specs.declared.outcome.ClientExit.{ClientExit}
use Rattle.canary_client.specs.declared.outcome.ClientExit.TheVariants as outcome
use Rattle.canary_client.specs.declared.standing.Hold.{Hold}
use Rattle.canary_client.specs.declared.standing.Hold.TheVariants as hold
use Rattle.canary_client.specs.declared.standing.ServiceStatus.{ServiceStatus}
use Rattle.canary_client.specs.declared.standing.ServiceStatus.TheVariants.{Healthy, Degraded, Paused, Progressing}
use Rattle.canary_client.specs.declared.standing.StandingReason.{StandingReason}
use Rattle.canary_client.specs.declared.standing.StandingReason.TheVariants as why

-- the word of a status
abbrev pub word_of : ServiceStatus → List ℕ
word_of Healthy = codes "Healthy"
word_of Degraded = codes "Degraded"
word_of Paused = codes "Paused"
word_of Progressing = codes "Progressing"

-- a line that says where a service stands: a step is entered, or an attempt ends
abbrev pub is_standing : LineEvent → Bool
is_standing (line.WeightEntered step weight) = true
is_standing (line.PauseEntered step) = true
is_standing (line.TimedPauseEntered step seconds) = true
is_standing (line.AnalysisEntered step run) = true
is_standing line.Aborted = true
is_standing (line.AbortedBy run) = true
is_standing (line.Finished version) = true
is_standing (line.Created version) = true
is_standing _ = false

-- what such a line says of why; a pause ends so many seconds after it was entered
abbrev pub why_by : ℕ → LineEvent → StandingReason
why_by moment (line.PauseEntered step) = why.Waiting
why_by moment (line.TimedPauseEntered step seconds) = why.Pause seconds (moment + seconds)
why_by moment (line.AnalysisEntered step run) = why.Analysis run
why_by moment line.Aborted = why.Aborted
why_by moment (line.AbortedBy run) = why.AbortedBy run
why_by moment _ = why.Plain

-- by the last such line, if there is one
abbrev pub why_of_line : Option Line → StandingReason
why_of_line None = why.Plain
why_of_line (Some l) = why_by l.moment l.event

-- a hold goes before what the step is
abbrev pub why_of : Hold → Option Line → StandingReason
why_of hold.None last = why_of_line last
why_of hold.Step last = why.Held hold.Step
why_of hold.Background last = why.Held hold.Background
why_of hold.Both last = why.Held hold.Both

abbrev pub is_held : StandingReason → Bool
is_held (why.Held h) = true
is_held _ = false

abbrev pub is_waiting : StandingReason → Bool
is_waiting why.Waiting = true
is_waiting _ = false

-- the service stands as a word of `--until` says: it has that status, or somebody has to decide
-- (Held), or to promote (Waiting)
abbrev pub meets : ServiceStatus → StandingReason → List ℕ → Bool
meets status w word = bytes_eq word (word_of status)
    || (bytes_eq word (codes "Held") && is_held w)
    || (bytes_eq word (codes "Waiting") && is_waiting w)

-- how `watch` ends at such a word
abbrev pub ended_at : ServiceStatus → List ℕ → ClientExit
ended_at status word = if bytes_eq word (codes "Held") then outcome.Held else by_status status
  where
    by_status : ServiceStatus → ClientExit
    by_status Degraded = outcome.Refused
    by_status _ = outcome.Done
