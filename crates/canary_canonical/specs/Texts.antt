-- The canonical text of a command: one text for one command, in JSON.
use Rattle.std.specs.Prelude.{ℕ, ℤ, List, map, Option, Some, None, codes}
use Rattle.serde_json.specs.Data.{Data, unsigned, null, number, string, array, object, Members, no_members, member}
use Rattle.serde_json.specs.Find.{of_integer}
use Rattle.serde_json.specs.View.{items_of}
use Rattle.serde_json.specs.Written.{compact_text}
use Rattle.canary_condition.specs.declared.outcome.Value.{Value}
use Rattle.canary_condition.specs.declared.outcome.Value.TheVariants.{Whole, List as ListResult}
use Rattle.canary_condition.specs.declared.outcome.Outcome.{Outcome}
use Rattle.canary_condition.specs.declared.outcome.Outcome.TheVariants.{Result as Brought, Failure}
use Rattle.canary_plan.specs.declared.step.Step.{Step}
use Rattle.canary_plan.specs.declared.step.Step.TheVariants.{SetWeight, Pause, Analysis}
use Rattle.canary_plan.specs.declared.service.Background.{Background}
use Rattle.canary_plan.specs.declared.service.ServiceSpec.{ServiceSpec}
use Rattle.canary_plan.specs.declared.template_spec.MetricSpec.{MetricSpec}
use Rattle.canary_plan.specs.declared.template_spec.TemplateSpec.{TemplateSpec}
use Rattle.canary_plan.specs.declared.report.Entry.{Entry}
use Rattle.canary_plan.specs.declared.report.Report.{Report}
use Rattle.canary_plan.specs.declared.command.Command.{Command}
use Rattle.canary_plan.specs.declared.command.Command.TheVariants as command

-- The members of each object stand in ascending order of the bytes of their keys. What is absent is
-- null, but for a metric's `passAfter`, which has no member then.

abbrev pub whole_data : ℕ → Data
whole_data n = number (unsigned n)

abbrev pub signed_data : ℤ → Data
signed_data z = number (of_integer z)

abbrev pub data_or_null : {A : Type 0} → (A → Data) → Option A → Data
data_or_null form None = null
data_or_null form (Some part) = form part

abbrev pub list_data : {A : Type 0} → (A → Data) → List A → Data
list_data form parts = array (items_of (map form parts))

-- an object of this member alone
abbrev pub only : List ℕ → Data → Data
only key value = object (member key value no_members)

-- Templates.

-- how many successes in a row are asked for, if a number is; if none is, there is no member
abbrev pub passing : Option ℕ → Members → Members
passing None rest = rest
passing (Some n) rest = member (codes "passAfter") (whole_data n) rest

unfoldable pub metric_object : Option ℕ → MetricSpec → Data
metric_object passes m = object
    (member (codes "consecutiveErrorLimit") (whole_data m.consecutive_error_limit)
    (member (codes "count") (data_or_null whole_data m.count)
    (member (codes "failureCondition") (data_or_null string m.failure)
    (member (codes "failureLimit") (whole_data m.failure_limit)
    (member (codes "inconclusiveLimit") (whole_data m.inconclusive_limit)
    (member (codes "initialDelay") (whole_data m.initial_delay)
    (member (codes "interval") (data_or_null whole_data m.interval)
    (member (codes "name") (string m.name)
    (passing passes
    (member (codes "successCondition") (data_or_null string m.success) no_members))))))))))

abbrev pub metric_data : MetricSpec → Data
metric_data m = metric_object m.pass_after m

unfoldable pub template_data : TemplateSpec → Data
template_data t = object
    (member (codes "dryRun") (list_data string t.dry_run)
    (member (codes "metrics") (list_data metric_data t.metrics)
    (member (codes "name") (string t.name) no_members)))

-- Services.

unfoldable pub step_data : Step → Data
step_data (SetWeight percent) = only (codes "setWeight") (whole_data percent)
step_data (Pause seconds) = only (codes "pause") (data_or_null whole_data seconds)
step_data (Analysis names) = only (codes "analysis") (list_data string names)

unfoldable pub background_data : Background → Data
background_data b = object
    (member (codes "startingStep") (whole_data b.starting_step)
    (member (codes "templates") (list_data string b.templates) no_members))

unfoldable pub service_data : ServiceSpec → Data
service_data s = object
    (member (codes "analysis") (data_or_null background_data s.background)
    (member (codes "name") (string s.name)
    (member (codes "steps") (list_data step_data s.steps)
    (member (codes "version") (string s.version) no_members))))

-- Reports.

abbrev pub result_data : Value → Data
result_data (Whole z) = signed_data z
result_data (ListResult values) = list_data signed_data values

abbrev pub measured : List ℕ → ℕ → ℕ → Value → Data
measured metric ordinal taken value = object
    (member (codes "metric") (string metric)
    (member (codes "ordinal") (whole_data ordinal)
    (member (codes "result") (result_data value)
    (member (codes "taken") (whole_data taken) no_members))))

abbrev pub failed : List ℕ → ℕ → ℕ → List ℕ → Data
failed metric ordinal taken text = object
    (member (codes "failure") (string text)
    (member (codes "metric") (string metric)
    (member (codes "ordinal") (whole_data ordinal)
    (member (codes "taken") (whole_data taken) no_members))))

abbrev pub entry_with : List ℕ → ℕ → ℕ → Outcome → Data
entry_with metric ordinal taken (Brought value) = measured metric ordinal taken value
entry_with metric ordinal taken (Failure text) = failed metric ordinal taken text

unfoldable pub entry_data : Entry → Data
entry_data e = entry_with e.metric e.ordinal e.taken e.outcome

unfoldable pub report_data : Report → Data
report_data r = object
    (member (codes "entries") (list_data entry_data r.entries)
    (member (codes "run") (whole_data r.run)
    (member (codes "service") (string r.service) no_members)))

-- Commands.

unfoldable pub start_data : List ℕ → List ℕ → Data
start_data service version = object
    (member (codes "service") (string service)
    (member (codes "version") (string version) no_members))

abbrev pub service_alone : List ℕ → Data
service_alone service = only (codes "service") (string service)

-- what a command is in JSON: an object of one member, whose key is its kind
unfoldable pub command_data : Command → Data
command_data (command.Template spec) = only (codes "template") (template_data spec)
command_data (command.Service spec) = only (codes "service") (service_data spec)
command_data (command.Start service version) = only (codes "start") (start_data service version)
command_data (command.Promote service) = only (codes "promote") (service_alone service)
command_data (command.PromoteFull service) = only (codes "promoteFull") (service_alone service)
command_data (command.Abort service) = only (codes "abort") (service_alone service)
command_data (command.Retry service) = only (codes "retry") (service_alone service)
command_data (command.Tick service) = only (codes "tick") (service_alone service)
command_data (command.Report report) = only (codes "report") (report_data report)

-- with no space, as serde_json writes it
unfoldable pub command_text : Command → List ℕ
command_text c = compact_text (command_data c)
