-- Which manifests the desk takes, as far as the manifest alone says.
use Rattle.std.specs.Prelude.{ℕ, refl, List, [], ◌∷◌, ◌++◌, Bool, true, false, ◌||◌, ◌&&◌, not, Option, Some, None, is_none, if◌then◌else◌, codes}
use Rattle.std.specs.List.{list_any}
use Rattle.std.specs.Str.{bytes_eq}
use Rattle.std.specs.FinMap as map
use Rattle.std.specs.Ordering.{nat_cmp}
use Rattle.std.specs.Cmp.Lexicographic.{slice_cmp}
use Rattle.serde_json.specs.Data.{Data}
use Rattle.canary_plan.specs.declared.template_spec.MetricSpec.{MetricSpec}
use Rattle.canary_plan.specs.declared.template_spec.TemplateSpec.{TemplateSpec}
use Rattle.canary_plan.specs.declared.template.Template.{Template}
use Rattle.canary_plan.specs.declared.service.ServiceSpec.{ServiceSpec}
use Rattle.canary_plan.specs.declared.report.Entry.{Entry}
use Rattle.canary_plan.specs.declared.refusal.Refusal.{Refusal}
use Rattle.canary_plan.specs.declared.command.Command.{Command}
use Rattle.canary_plan.specs.declared.command.Command.TheVariants as command
use Rattle.canary_plan.specs.Plans.{template_of, strategy_of}
use Rattle.canary_plan.specs.PlanRefusals.{template_refusal, strategy_refusal, bound_refusal}
use Rattle.canary_plan.specs.Refusals.{or_refusal}
use Rattle.canary_plan.specs.Commands.{names_looked_up}
use Rattle.canary_manifest.specs.Members.{has, anything, is_other_text}
use Rattle.canary_manifest.specs.Readings.{Reading, unsupported, unreadable, readable}
use Rattle.canary_manifest.specs.Commands.{json_in, body_reading}

-- what a check says: that the desk takes it, and that nothing is warned of
pub record Found : Type 0 where
  pub is_taken : Bool
  pub is_quiet : Bool

-- ---- templates that a Rollout names, on a desk where they fit it

-- a metric with nothing but a name: one measurement
abbrev pub plain_metric : List ℕ → MetricSpec
plain_metric name =
    record {
      name = name;
      success = None;
      failure = None;
      interval = None;
      initial_delay = 0;
      count = None;
      pass_after = None;
      failure_limit = 0;
      inconclusive_limit = 0;
      consecutive_error_limit = 4;
      within = refl;
    }

-- a template of one metric, which has the template's name
abbrev pub stand_in : List ℕ → TemplateSpec
stand_in name =
    record { name = name; metrics = plain_metric name ∷ []; dry_run = []; within = refl }

abbrev pub Known : Type 0
Known = map.FinMap (slice_cmp nat_cmp) Template

-- these templates and the stand-ins of these names
abbrev pub with_stand_ins : Known → List (List ℕ) → Known
with_stand_ins known [] = known
with_stand_ins known (name ∷ names) =
    with_stand_ins (map.insert known name (template_of (stand_in name) 1)) names

-- why a service is refused, or else why no attempt of it can be bound, on a desk with these
-- templates
abbrev pub refusal_on : Known → ServiceSpec → Option Refusal
refusal_on known spec =
    or_refusal
    (strategy_refusal (map.get known) spec)
    (bound_refusal (map.get known) (strategy_of spec))

-- the same if the templates of these names are there, with one metric of its own each
abbrev pub refusal_among : List (List ℕ) → ServiceSpec → Option Refusal
refusal_among names spec = refusal_on (with_stand_ins map.empty names) spec

-- ---- manifests

-- nothing that the command itself holds is refused, of a service neither at once nor as an attempt
-- begins
abbrev pub is_command_taken : Command → Bool
is_command_taken (command.Template spec) = is_none (template_refusal spec)
is_command_taken (command.Service spec) =
    is_none (refusal_among (names_looked_up None (command.Service spec)) spec)
is_command_taken other = false

abbrev pub is_reading_taken : Reading Command → Bool
is_reading_taken unsupported = false
is_reading_taken unreadable = false
is_reading_taken (readable asked) = is_command_taken asked

-- the body that registers an AnalysisTemplate
abbrev pub template_body : List ℕ → List ℕ
template_body text = codes "{\"template\":" ++ text ++ codes "}"

-- the body that registers a Rollout, with some version
abbrev pub service_body : List ℕ → List ℕ
service_body text = codes "{\"service\":{\"version\":\"v1\",\"manifest\":" ++ text ++ codes "}}"

-- its spec has a member of that key
abbrev pub has_in_spec : List ℕ → Data → Bool
has_in_spec key = has (codes "spec") (has key anything)

-- its `kind` is that text; or it has none, and of these two keys its spec has the first alone
abbrev pub is_of_kind : List ℕ → List ℕ → List ℕ → Data → Bool
is_of_kind kind own other manifest =
    if has (codes "kind") anything manifest
    then has (codes "kind") (λ value. not (is_other_text kind value)) manifest
    else has_in_spec own manifest && not (has_in_spec other manifest)

-- it is an AnalysisTemplate: it says so, or has no kind and its spec has metrics
abbrev pub is_template : Data → Bool
is_template = is_of_kind (codes "AnalysisTemplate") (codes "metrics") (codes "strategy")

-- it is a Rollout: it says so, or has no kind and its spec has a strategy
abbrev pub is_rollout : Data → Bool
is_rollout = is_of_kind (codes "Rollout") (codes "strategy") (codes "metrics")

-- the text of this manifest is read and taken as that of its kind
abbrev pub is_manifest_taken : List ℕ → Data → Bool
is_manifest_taken text manifest =
    if is_template manifest
    then is_reading_taken (body_reading (template_body text))
    else (if is_rollout manifest
    then is_reading_taken (body_reading (service_body text))
    else false)

abbrev pub is_json_taken : List ℕ → Option Data → Bool
is_json_taken text None = false
is_json_taken text (Some manifest) = is_manifest_taken text manifest

-- the desk takes the manifest of this text, as far as the text alone says
abbrev pub is_taken : List ℕ → Bool
is_taken text = is_json_taken text (json_in text)

-- ---- bodies of requests

-- the measurement of an entry is one of that metric
abbrev pub names_metric : List ℕ → Entry → Bool
names_metric name entry = bytes_eq entry.metric name

-- two entries name one metric
abbrev pub names_twice : List Entry → Bool
names_twice [] = false
names_twice (entry ∷ entries) =
    list_any (names_metric entry.metric) entries || names_twice entries

-- nothing that the command itself holds is refused, whatever a desk has
abbrev pub is_asked_taken : Command → Bool
is_asked_taken (command.Template spec) = is_command_taken (command.Template spec)
is_asked_taken (command.Service spec) = is_command_taken (command.Service spec)
is_asked_taken (command.Report report) = not (names_twice report.entries)
is_asked_taken other = true

abbrev pub is_asked_reading_taken : Reading Command → Bool
is_asked_reading_taken unsupported = false
is_asked_reading_taken unreadable = false
is_asked_reading_taken (readable asked) = is_asked_taken asked

-- the desk takes the request with this body, as far as the body alone says
abbrev pub is_request_taken : List ℕ → Bool
is_request_taken body = is_asked_reading_taken (body_reading body)
