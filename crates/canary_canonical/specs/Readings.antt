-- The command that a text is: each name in it is a name, each label a label, and each number within
-- its limit.
use Rattle.std.specs.Prelude.{ℕ, ℤ, List, [], ◌&&◌, nat_le, if◌then◌else◌, length, Option, Some, None, option_map, option_and_then, unwrap_or, IsSome, codes}
use Rattle.std.specs.Option.{option_flatten, option_or}
use Rattle.std.specs.Str.{bytes_eq}
use Rattle.serde_json.specs.Data.{Data}
use Rattle.serde_json.specs.Find.{get, as_str}
use Rattle.serde_json.specs.Read.{read}
use Rattle.canary_condition.specs.declared.outcome.Value.{Value}
use Rattle.canary_condition.specs.declared.outcome.Value.TheVariants.{Whole, List as ListResult}
use Rattle.canary_condition.specs.declared.outcome.Outcome.{Outcome}
use Rattle.canary_condition.specs.declared.outcome.Outcome.TheVariants.{Result as Brought, Failure}
use Rattle.canary_plan.specs.declared.step.Step.{Step}
use Rattle.canary_plan.specs.declared.step.Step.TheVariants.{SetWeight, Pause, Analysis}
use Rattle.canary_plan.specs.declared.service.Background.{Background}
use Rattle.canary_plan.specs.declared.service.ServiceSpec.{ServiceSpec}
use Rattle.canary_plan.specs.declared.template_spec.MetricSpec.{MetricSpec}
use Rattle.canary_plan.specs.declared.template_spec.TemplateSpec.{TemplateSpec}
use Rattle.canary_plan.specs.declared.report.Entry.{Entry}
use Rattle.canary_plan.specs.declared.report.Report.{Report}
use Rattle.canary_plan.specs.declared.command.Command.{Command}
use Rattle.canary_plan.specs.declared.command.Command.TheVariants as command
use Rattle.canary_plan.specs.Limits.{are_metric_limits, is_dry_run_name, is_metric_count, is_ordinal, are_report_limits}
use Rattle.canary_canonical.specs.Forms.{◌⊛◌, at, at_if, in_object_of, by_key, name_in, label_in, number_up_to, signed_in, null_or, list_of, some_if, where_kept}
use Rattle.canary_canonical.specs.Texts.{command_text}

-- a duration, in seconds
abbrev pub seconds_in : Data → Option ℕ
seconds_in = number_up_to 31536000

-- a moment, in seconds
abbrev pub moment_in : Data → Option ℕ
moment_in = number_up_to 253370764799

-- a number of 32 bits
abbrev pub word_in : Data → Option ℕ
word_in = number_up_to 4294967295

-- a weight, in percent
abbrev pub weight_in : Data → Option ℕ
weight_in = number_up_to 1000000

-- the step at which a background analysis begins
abbrev pub starting_step_in : Data → Option ℕ
starting_step_in = number_up_to 64

-- the name of a metric that is dry-run, or `.*`
abbrev pub dry_run_name_in : Data → Option (List ℕ)
dry_run_name_in value = option_and_then (some_if is_dry_run_name) (as_str value)

-- ---- templates

abbrev pub metric_with : List ℕ → Option (List ℕ) → Option (List ℕ) → Option ℕ → ℕ → Option ℕ
    → Option ℕ → ℕ → ℕ → ℕ → Option MetricSpec
metric_with name success failure interval delay count passes failed inconclusive errors =
    where_kept (are_metric_limits success failure count passes failed inconclusive errors)
    (λ kept. record {
      name = name;
      success = success;
      failure = failure;
      interval = interval;
      initial_delay = delay;
      count = count;
      pass_after = passes;
      failure_limit = failed;
      inconclusive_limit = inconclusive;
      consecutive_error_limit = errors;
      within = kept;
    })

unfoldable pub metric_in : Data → Option MetricSpec
metric_in d = option_flatten (Some metric_with
    ⊛ at (codes "name") label_in d
    ⊛ at (codes "successCondition") (null_or as_str) d
    ⊛ at (codes "failureCondition") (null_or as_str) d
    ⊛ at (codes "interval") (null_or seconds_in) d
    ⊛ at (codes "initialDelay") seconds_in d
    ⊛ at (codes "count") (null_or word_in) d
    ⊛ at_if (codes "passAfter") word_in d
    ⊛ at (codes "failureLimit") word_in d
    ⊛ at (codes "inconclusiveLimit") word_in d
    ⊛ at (codes "consecutiveErrorLimit") word_in d)

abbrev pub template_with : List ℕ → List MetricSpec → List (List ℕ) → Option TemplateSpec
template_with name metrics dry_run =
    where_kept (is_metric_count (length metrics))
    (λ kept. record { name = name; metrics = metrics; dry_run = dry_run; within = kept })

unfoldable pub template_in : Data → Option TemplateSpec
template_in d = option_flatten (Some template_with
    ⊛ at (codes "name") name_in d
    ⊛ at (codes "metrics") (list_of metric_in) d
    ⊛ at (codes "dryRun") (list_of dry_run_name_in) d)

-- ---- services

abbrev pub step_of_kind : List ℕ → Data → Option Step
step_of_kind kind d =
    if bytes_eq kind (codes "setWeight") then option_map SetWeight (weight_in d)
    else (if bytes_eq kind (codes "pause") then option_map Pause (null_or seconds_in d)
    else (if bytes_eq kind (codes "analysis") then option_map Analysis (list_of name_in d)
    else None))

unfoldable pub step_in : Data → Option Step
step_in d = by_key step_of_kind d

abbrev pub background_with : List (List ℕ) → ℕ → Background
background_with templates starting_step =
    record { templates = templates; starting_step = starting_step }

unfoldable pub background_in : Data → Option Background
background_in d = Some background_with
    ⊛ at (codes "templates") (list_of name_in) d
    ⊛ at (codes "startingStep") starting_step_in d

abbrev pub service_with : List ℕ → List ℕ → List Step → Option Background → ServiceSpec
service_with name version steps background =
    record { name = name; version = version; steps = steps; background = background }

unfoldable pub service_in : Data → Option ServiceSpec
service_in d = Some service_with
    ⊛ at (codes "name") name_in d
    ⊛ at (codes "version") label_in d
    ⊛ at (codes "steps") (list_of step_in) d
    ⊛ at (codes "analysis") (null_or background_in) d

-- ---- reports

-- 1 to 16 numbers
abbrev pub values_with : List ℤ → Option (List ℤ)
values_with values =
    if nat_le 1 (length values) && nat_le (length values) 16 then Some values else None

-- a list, or else a number
abbrev pub result_in : Data → Option Value
result_in d =
    option_or (option_map ListResult (option_and_then values_with (list_of signed_in d)))
    (option_map Whole (signed_in d))

-- 1 to 200 bytes
abbrev pub failure_with : List ℕ → Option (List ℕ)
failure_with text = if nat_le 1 (length text) && nat_le (length text) 200 then Some text else None

abbrev pub failure_in : Data → Option (List ℕ)
failure_in d = option_and_then failure_with (as_str d)

-- one of the two is there
abbrev pub outcome_of : Option Data → Option Data → Option Outcome
outcome_of (Some result) None = option_map Brought (result_in result)
outcome_of None (Some failure) = option_map Failure (failure_in failure)
outcome_of result failure = None

abbrev pub outcome_in : Data → Option Outcome
outcome_in d = outcome_of (get (codes "result") d) (get (codes "failure") d)

abbrev pub entry_of : List ℕ → ℕ → ℕ → Outcome → Option Entry
entry_of metric ordinal taken outcome =
    where_kept (is_ordinal ordinal)
    (λ kept. record
    { metric = metric; ordinal = ordinal; taken = taken; outcome = outcome; within = kept })

unfoldable pub entry_in : Data → Option Entry
entry_in d = in_object_of 4 d (option_flatten (Some entry_of
    ⊛ at (codes "metric") label_in d
    ⊛ at (codes "ordinal") word_in d
    ⊛ at (codes "taken") moment_in d
    ⊛ outcome_in d))

abbrev pub report_with : List ℕ → ℕ → List Entry → Option Report
report_with service run entries =
    where_kept (are_report_limits run (length entries))
    (λ kept. record { service = service; run = run; entries = entries; within = kept })

unfoldable pub report_in : Data → Option Report
report_in d = in_object_of 3 d (option_flatten (Some report_with
    ⊛ at (codes "service") name_in d
    ⊛ at (codes "run") word_in d
    ⊛ at (codes "entries") (list_of entry_in) d))

-- ---- commands

abbrev pub start_with : List ℕ → List ℕ → Command
start_with service version = command.Start service version

unfoldable pub start_in : Data → Option Command
start_in d =
    in_object_of 2 d
    (Some start_with ⊛ at (codes "service") name_in d ⊛ at (codes "version") label_in d)

-- the service that is named, in a command of a service alone
abbrev pub named_in : Data → Option (List ℕ)
named_in d = in_object_of 1 d (at (codes "service") name_in d)

-- of the commands whose canonical text has the form in which they are asked for, the one of that
-- kind
unfoldable pub plain_of_kind : List ℕ → Data → Option Command
plain_of_kind kind d =
    if bytes_eq kind (codes "start") then start_in d
    else (if bytes_eq kind (codes "promote") then option_map command.Promote (named_in d)
    else (if bytes_eq kind (codes "promoteFull") then option_map command.PromoteFull (named_in d)
    else (if bytes_eq kind (codes "abort") then option_map command.Abort (named_in d)
    else (if bytes_eq kind (codes "retry") then option_map command.Retry (named_in d)
    else (if bytes_eq kind (codes "tick") then option_map command.Tick (named_in d)
    else (if bytes_eq kind (codes "report") then option_map command.Report (report_in d)
    else None))))))

unfoldable pub command_of_kind : List ℕ → Data → Option Command
command_of_kind kind d =
    if bytes_eq kind (codes "template") then option_map command.Template (template_in d)
    else (if bytes_eq kind (codes "service") then option_map command.Service (service_in d)
    else plain_of_kind kind d)

abbrev pub command_in : Data → Option Command
command_in d = by_key command_of_kind d

-- ---- texts

-- the command that a text is in JSON, canonical or not
abbrev pub spelt_in : List ℕ → Option Command
spelt_in text = option_and_then command_in (read text)

abbrev pub if_text_of : List ℕ → Command → Option Command
if_text_of text command = if bytes_eq (command_text command) text then Some command else None

-- the command with this canonical text, if one has it
unfoldable pub canonical_in : List ℕ → Option Command
canonical_in text = option_and_then (if_text_of text) (spelt_in text)

-- what stands for a text that is no command's: a Tick of a service whose name is empty, as no name
-- is
abbrev pub no_command : Command
no_command = command.Tick []

abbrev pub command_of : List ℕ → Command
command_of text = unwrap_or (canonical_in text) no_command

-- some command has this canonical text
abbrev pub IsCanonical : List ℕ → Type 0
IsCanonical text = IsSome (canonical_in text)
