-- Commands as JSON (RFC 8259).
use Rattle.std.specs.Prelude.{ℕ, List, Option, Some, None, option_map, option_and_then, codes, if◌then◌else◌}
use Rattle.std.specs.Str.{is_utf8, bytes_eq}
use Rattle.serde_json.specs.Data.{Data}
use Rattle.serde_json.specs.Find.{as_object}
use Rattle.serde_json.specs.Read.{read}
use Rattle.canary_plan.specs.declared.service.ServiceSpec.{ServiceSpec}
use Rattle.canary_plan.specs.declared.command.Command.{Command}
use Rattle.canary_plan.specs.declared.command.Command.TheVariants.{Template, Service}
use Rattle.canary_canonical.specs.Forms.{◌⊛◌, at, in_object_of, only_member, label_in}
use Rattle.canary_canonical.specs.Readings.{service_with, plain_of_kind}
use Rattle.canary_manifest.specs.Members.{has}
use Rattle.canary_manifest.specs.Readings.{Reading, unreadable, reading_of_form, reading_unless}
use Rattle.canary_manifest.specs.Templates.{template_of, is_unsupported_template}
use Rattle.canary_manifest.specs.Rollouts.{rollout_name, in_canary, canary_steps, canary_background, is_unsupported_rollout}

-- ---- commands

-- a manifest, and the version that is stable
unfoldable pub service_of : Data → Option ServiceSpec
service_of value = in_object_of 2 value (Some service_with
    ⊛ at (codes "manifest") rollout_name value
    ⊛ at (codes "version") label_in value
    ⊛ at (codes "manifest") (in_canary canary_steps) value
    ⊛ at (codes "manifest") (in_canary canary_background) value)

abbrev pub template_reading : Data → Reading Command
template_reading manifest =
    reading_unless (is_unsupported_template manifest) (option_map Template (template_of manifest))

abbrev pub service_reading : Data → Reading Command
service_reading value =
    reading_unless (has (codes "manifest") is_unsupported_rollout value)
    (option_map Service (service_of value))

-- the reading of a command of that kind; all but templates and services are asked for in the form
-- of their canonical text
unfoldable pub reading_of_kind : List ℕ → Data → Reading Command
reading_of_kind kind value =
    if bytes_eq kind (codes "template") then template_reading value
    else (if bytes_eq kind (codes "service") then service_reading value
    else reading_of_form (plain_of_kind kind value))

abbrev pub reading_of_member : Option (List ℕ × Data) → Reading Command
reading_of_member None = unreadable
reading_of_member (Some m) = reading_of_kind m.0 m.1

-- a command is an object with exactly one member, whose key is its kind
abbrev pub command_reading : Data → Reading Command
command_reading value = reading_of_member (option_and_then only_member (as_object value))

-- ---- bodies

-- the JSON value that serde_json reads of these bytes, which have to be UTF-8
abbrev pub json_in : List ℕ → Option Data
json_in bytes = if is_utf8 bytes then read bytes else None

abbrev pub reading_of_json : Option Data → Reading Command
reading_of_json None = unreadable
reading_of_json (Some value) = command_reading value

-- the reading of a body
abbrev pub body_reading : List ℕ → Reading Command
body_reading bytes = reading_of_json (json_in bytes)
