-- Whom the steps of a Rollout wait for: an analysis waits for what agents measure, and a pause
-- without a duration for whoever promotes. All else ends by itself.
use Rattle.std.specs.Prelude.{ℕ, List, [], ◌∷◌, Bool, true, false, not, ◌&&◌, ◌||◌, nat_lt, nat_le, Option, Some, None, if◌then◌else◌}
use Rattle.serde_json.specs.Data.{Data}
use Rattle.canary_plan.specs.declared.step.Step.{Step}
use Rattle.canary_plan.specs.declared.step.Step.TheVariants.{SetWeight, Pause, Analysis}
use Rattle.canary_plan.specs.declared.command.Command.{Command}
use Rattle.canary_plan.specs.declared.command.Command.TheVariants as command
use Rattle.canary_manifest.specs.Readings.{Reading, unsupported, unreadable, readable}
use Rattle.canary_manifest.specs.Commands.{json_in, body_reading}
use Rattle.canary_check.specs.Taken.{is_template, is_rollout, service_body}

-- ---- steps

-- it ends only as somebody measures or promotes
abbrev pub waits : Step → Bool
waits (SetWeight percent) = false
waits (Pause None) = true
waits (Pause (Some seconds)) = false
waits (Analysis names) = true

-- it sends traffic to the new version
abbrev pub sends_some : Step → Bool
sends_some (SetWeight percent) = nat_lt 0 percent
sends_some _ = false

-- it sends all traffic to the new version
abbrev pub sends_all : Step → Bool
sends_all (SetWeight percent) = nat_le 100 percent
sends_all _ = false

-- a step waits before one sends all traffic
abbrev pub waits_before_all : List Step → Bool
waits_before_all [] = false
waits_before_all (step ∷ steps) = not (sends_all step) && (waits step || waits_before_all steps)

-- the steps from the first that sends traffic on, or these others if none does
abbrev pub from_traffic_or : List Step → List Step → List Step
from_traffic_or others [] = others
from_traffic_or others (step ∷ steps) =
    if sends_some step then step ∷ steps else from_traffic_or others steps

-- no step waits for anybody between the first weight above 0 (the begin, if there is none) and 100
-- percent: time alone brings a version there
abbrev pub waits_for_nobody : List Step → Bool
waits_for_nobody steps = not (waits_before_all (from_traffic_or steps steps))

-- ---- commands, bodies and manifests

-- of a service, its steps wait for somebody
abbrev pub is_command_attended : Command → Bool
is_command_attended (command.Service spec) = not (waits_for_nobody spec.steps)
is_command_attended other = true

abbrev pub is_reading_attended : Reading Command → Bool
is_reading_attended unsupported = true
is_reading_attended unreadable = true
is_reading_attended (readable asked) = is_command_attended asked

-- the body registers no service whose steps wait for nobody
abbrev pub is_request_attended : List ℕ → Bool
is_request_attended body = is_reading_attended (body_reading body)

abbrev pub is_manifest_attended : List ℕ → Data → Bool
is_manifest_attended text manifest =
    if is_template manifest then true
    else (if is_rollout manifest then is_request_attended (service_body text) else true)

abbrev pub is_json_attended : List ℕ → Option Data → Bool
is_json_attended text None = true
is_json_attended text (Some manifest) = is_manifest_attended text manifest

-- the manifest of this text is no Rollout whose steps wait for nobody
abbrev pub is_attended : List ℕ → Bool
is_attended text = is_json_attended text (json_in text)
