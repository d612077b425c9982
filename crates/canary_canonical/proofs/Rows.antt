-- Worked texts, computed on the definitions, so that a wrong key or value in a definition does not check.
use Rattle.std.proofs.Common.{◌≡◌, ℕ, pos, negsuc, List, [], ◌∷◌, ◌++◌, Some, None, refl}
use Rattle.std.specs.Prelude.{codes, replicate}
use Rattle.std.specs.Fmt.{digits}
use Rattle.json.proofs.OnLiterals.{json_on_literals}
use Rattle.serde_json.proofs.OnLiterals.{serde_json_on_literals}
use Rattle.canary_condition.specs.declared.outcome.Outcome.{Outcome}
use Rattle.canary_condition.specs.declared.outcome.Outcome.TheVariants.{Result as Brought, Failure}
use Rattle.canary_condition.specs.declared.outcome.Value.TheVariants.{Whole, List as ListResult}
use Rattle.canary_plan.specs.declared.step.Step.TheVariants.{SetWeight, Pause, Analysis}
use Rattle.canary_plan.specs.declared.template_spec.MetricSpec.{MetricSpec}
use Rattle.canary_plan.specs.declared.report.Entry.{Entry}
use Rattle.canary_plan.specs.declared.command.Command.{Command}
use Rattle.canary_plan.specs.declared.command.Command.TheVariants as command
use Rattle.canary_canonical.specs.Texts.{metric_object, template_data, step_data, background_data, service_data, entry_data, report_data, start_data, command_data, command_text}
use Rattle.canary_canonical.specs.Readings.{template_in, metric_in, service_in, step_in, background_in, entry_in, report_in, start_in, plain_of_kind, command_of_kind, spelt_in, canonical_in}

abbrev web : List ℕ
web = codes "web"

-- Templates.

abbrev metric : MetricSpec
metric = record {
  name = codes "m";
  success = Some (codes "result == 0");
  failure = None;
  interval = Some 60;
  initial_delay = 0;
  count = None;
  pass_after = None;
  failure_limit = 0;
  inconclusive_limit = 0;
  consecutive_error_limit = 4;
  within = refl;
}

template :
    command_text (command.Template (record { name = codes "t"; metrics = metric ∷ []; dry_run = codes "m" ∷ []; within = refl }))
    ≡ codes "{\"template\":{\"dryRun\":[\"m\"],\"metrics\":[{\"consecutiveErrorLimit\":4,\"count\":null,\"failureCondition\":null,\"failureLimit\":0,\"inconclusiveLimit\":0,\"initialDelay\":0,\"interval\":60,\"name\":\"m\",\"successCondition\":\"result == 0\"}],\"name\":\"t\"}}"
unfolding json_on_literals digits command_text command_data template_data metric_object
template = refl

-- what is absent and what is written out change places
other_metric : command_text (command.Template (record {
  name = codes "t";
  metrics = record metric { success = None; failure = Some (codes "result < 5"); interval = None; initial_delay = 5; count = Some 3; failure_limit = 1; inconclusive_limit = 2; within = refl } ∷ [];
  dry_run = [];
  within = refl;
}))
    ≡ codes "{\"template\":{\"dryRun\":[],\"metrics\":[{\"consecutiveErrorLimit\":4,\"count\":3,\"failureCondition\":\"result < 5\",\"failureLimit\":1,\"inconclusiveLimit\":2,\"initialDelay\":5,\"interval\":null,\"name\":\"m\",\"successCondition\":null}],\"name\":\"t\"}}"
unfolding json_on_literals digits command_text command_data template_data metric_object
other_metric = refl

-- a number of successes in a row has a member of its own
passed_metric : command_text (command.Template (record { name = codes "t"; metrics = record metric { pass_after = Some 2; within = refl } ∷ []; dry_run = []; within = refl }))
    ≡ codes "{\"template\":{\"dryRun\":[],\"metrics\":[{\"consecutiveErrorLimit\":4,\"count\":null,\"failureCondition\":null,\"failureLimit\":0,\"inconclusiveLimit\":0,\"initialDelay\":0,\"interval\":60,\"name\":\"m\",\"passAfter\":2,\"successCondition\":\"result == 0\"}],\"name\":\"t\"}}"
unfolding json_on_literals digits command_text command_data template_data metric_object
passed_metric = refl

-- Services.

service :
    command_text (command.Service (record {
      name = web;
      version = codes "v1";
      steps = SetWeight 20 ∷ Pause None ∷ Pause (Some 300) ∷ Analysis (codes "t" ∷ []) ∷ [];
      background = Some (record { templates = codes "t" ∷ []; starting_step = 0 });
    }))
    ≡ codes "{\"service\":{\"analysis\":{\"startingStep\":0,\"templates\":[\"t\"]},\"name\":\"web\",\"steps\":[{\"setWeight\":20},{\"pause\":null},{\"pause\":300},{\"analysis\":[\"t\"]}],\"version\":\"v1\"}}"
unfolding json_on_literals digits command_text command_data service_data background_data step_data
service = refl

no_background :
    command_text (command.Service (record { name = web; version = codes "v1"; steps = Pause None ∷ []; background = None }))
    ≡ codes "{\"service\":{\"analysis\":null,\"name\":\"web\",\"steps\":[{\"pause\":null}],\"version\":\"v1\"}}"
unfolding json_on_literals digits command_text command_data service_data step_data
no_background = refl

-- What engineers ask for.

start : command_text (command.Start web (codes "v2")) ≡ codes "{\"start\":{\"service\":\"web\",\"version\":\"v2\"}}"
unfolding json_on_literals command_text command_data start_data
start = refl

promote : command_text (command.Promote web) ≡ codes "{\"promote\":{\"service\":\"web\"}}"
unfolding json_on_literals command_text command_data
promote = refl

promote_full : command_text (command.PromoteFull web) ≡ codes "{\"promoteFull\":{\"service\":\"web\"}}"
unfolding json_on_literals command_text command_data
promote_full = refl

abort : command_text (command.Abort web) ≡ codes "{\"abort\":{\"service\":\"web\"}}"
unfolding json_on_literals command_text command_data
abort = refl

retry : command_text (command.Retry web) ≡ codes "{\"retry\":{\"service\":\"web\"}}"
unfolding json_on_literals command_text command_data
retry = refl

tick : command_text (command.Tick web) ≡ codes "{\"tick\":{\"service\":\"web\"}}"
unfolding json_on_literals command_text command_data
tick = refl

-- Reports.

abbrev measurement : ℕ → Outcome → Entry
measurement taken outcome = record { metric = codes "m"; ordinal = 1; taken = taken; outcome = outcome; within = refl }

report :
    command_text (command.Report (record {
      service = web;
      run = 2;
      entries = measurement 1000 (Brought (Whole (negsuc 4))) ∷ measurement 1060 (Brought (ListResult (pos 1 ∷ pos 0 ∷ []))) ∷ measurement 1120 (Failure (codes "say \"no\"\n")) ∷ [];
      within = refl;
    }))
    ≡ codes "{\"report\":{\"entries\":[{\"metric\":\"m\",\"ordinal\":1,\"result\":-5,\"taken\":1000},{\"metric\":\"m\",\"ordinal\":1,\"result\":[1,0],\"taken\":1060},{\"failure\":\"say \\\"no\\\"\\n\",\"metric\":\"m\",\"ordinal\":1,\"taken\":1120}],\"run\":2,\"service\":\"web\"}}"
unfolding json_on_literals digits command_text command_data report_data entry_data
report = refl

-- What is read.

tick_read : spelt_in (codes "{\"tick\":{\"service\":\"web\"}}") ≡ Some (command.Tick web)
unfolding serde_json_on_literals command_of_kind plain_of_kind
tick_read = refl

-- a text with a space is read, and is not canonical
spaced : spelt_in (codes "{\"tick\": {\"service\":\"web\"}}") ≡ Some (command.Tick web)
unfolding serde_json_on_literals command_of_kind plain_of_kind
spaced = refl

not_canonical : canonical_in (codes "{\"tick\": {\"service\":\"web\"}}") ≡ None
unfolding json_on_literals serde_json_on_literals command_text command_data canonical_in command_of_kind plain_of_kind
not_canonical = refl

-- without the space it is
canonical : canonical_in (codes "{\"tick\":{\"service\":\"web\"}}") ≡ Some (command.Tick web)
unfolding json_on_literals serde_json_on_literals command_text command_data canonical_in command_of_kind plain_of_kind
canonical = refl

-- a service, with the longest pause
abbrev pausing : List ℕ → List ℕ
pausing seconds = codes "{\"service\":{\"analysis\":null,\"name\":\"web\",\"steps\":[{\"pause\":" ++ seconds ++ codes "}],\"version\":\"v1\"}}"

longest : spelt_in (pausing (codes "31536000")) ≡ Some (command.Service (record { name = web; version = codes "v1"; steps = Pause (Some 31536000) ∷ []; background = None }))
unfolding serde_json_on_literals command_of_kind service_in step_in
longest = refl

-- and one that is too long
too_long : spelt_in (pausing (codes "31536001")) ≡ None
unfolding serde_json_on_literals command_of_kind service_in step_in
too_long = refl

-- a service, with this weight
abbrev weighing : List ℕ → List ℕ
weighing percent = codes "{\"service\":{\"analysis\":null,\"name\":\"web\",\"steps\":[{\"setWeight\":" ++ percent ++ codes "}],\"version\":\"v1\"}}"

greatest_weight : canonical_in (weighing (codes "1000000")) ≡ Some (command.Service (record { name = web; version = codes "v1"; steps = SetWeight 1000000 ∷ []; background = None }))
unfolding json_on_literals serde_json_on_literals digits command_text command_data service_data step_data canonical_in command_of_kind service_in step_in
greatest_weight = refl

weight_too_great : canonical_in (weighing (codes "1000001")) ≡ None
unfolding serde_json_on_literals canonical_in command_of_kind service_in step_in
weight_too_great = refl

-- a service, with a background analysis that begins at this step
abbrev beginning : List ℕ → List ℕ
beginning step = codes "{\"service\":{\"analysis\":{\"startingStep\":" ++ step ++ codes ",\"templates\":[\"t\"]},\"name\":\"web\",\"steps\":[],\"version\":\"v1\"}}"

last_starting_step : canonical_in (beginning (codes "64")) ≡ Some (command.Service (record { name = web; version = codes "v1"; steps = []; background = Some (record { templates = codes "t" ∷ []; starting_step = 64 }) }))
unfolding json_on_literals serde_json_on_literals digits command_text command_data service_data background_data canonical_in command_of_kind service_in background_in
last_starting_step = refl

starting_step_too_great : canonical_in (beginning (codes "65")) ≡ None
unfolding serde_json_on_literals canonical_in command_of_kind service_in background_in
starting_step_too_great = refl

-- a template that marks so many letters "a" as dry-run
abbrev marking : ℕ → List ℕ
marking n = codes "{\"template\":{\"dryRun\":[\"" ++ replicate n 97 ++ codes "\"],\"metrics\":[{\"consecutiveErrorLimit\":4,\"count\":null,\"failureCondition\":null,\"failureLimit\":0,\"inconclusiveLimit\":0,\"initialDelay\":0,\"interval\":60,\"name\":\"m\",\"successCondition\":\"result == 0\"}],\"name\":\"t\"}}"

longest_dry_run_name : canonical_in (marking 63) ≡ Some (command.Template (record { name = codes "t"; metrics = metric ∷ []; dry_run = replicate 63 97 ∷ []; within = refl }))
unfolding json_on_literals serde_json_on_literals digits command_text command_data template_data metric_object canonical_in command_of_kind template_in metric_in
longest_dry_run_name = refl

dry_run_name_too_long : canonical_in (marking 64) ≡ None
unfolding serde_json_on_literals canonical_in command_of_kind template_in metric_in
dry_run_name_too_long = refl

no_empty_dry_run_name : canonical_in (marking 0) ≡ None
unfolding serde_json_on_literals canonical_in command_of_kind template_in metric_in
no_empty_dry_run_name = refl

-- a report, with this result
abbrev reporting : List ℕ → List ℕ
reporting result = codes "{\"report\":{\"entries\":[{\"metric\":\"m\",\"ordinal\":1,\"result\":" ++ result ++ codes ",\"taken\":1000}],\"run\":2,\"service\":\"web\"}}"

abbrev reported : Outcome → Command
reported outcome = command.Report (record { service = web; run = 2; entries = measurement 1000 outcome ∷ []; within = refl })

greatest : spelt_in (reporting (codes "9223372036854775807")) ≡ Some (reported (Brought (Whole (pos 9223372036854775807))))
unfolding serde_json_on_literals command_of_kind plain_of_kind report_in entry_in
greatest = refl

least : spelt_in (reporting (codes "-9223372036854775808")) ≡ Some (reported (Brought (Whole (negsuc 9223372036854775807))))
unfolding serde_json_on_literals command_of_kind plain_of_kind report_in entry_in
least = refl

-- no signed word of 64 bits holds it
not_held : spelt_in (reporting (codes "9223372036854775808")) ≡ None
unfolding serde_json_on_literals command_of_kind plain_of_kind report_in entry_in
not_held = refl

-- a list of numbers has one at least
no_numbers : spelt_in (reporting (codes "[]")) ≡ None
unfolding serde_json_on_literals command_of_kind plain_of_kind report_in entry_in
no_numbers = refl

-- a name has no capital letter, and a label may have one
no_name : spelt_in (codes "{\"start\":{\"service\":\"Web\",\"version\":\"V1\"}}") ≡ None
unfolding serde_json_on_literals command_of_kind plain_of_kind start_in
no_name = refl

label : spelt_in (codes "{\"start\":{\"service\":\"web\",\"version\":\"V1\"}}") ≡ Some (command.Start web (codes "V1"))
unfolding serde_json_on_literals command_of_kind plain_of_kind start_in
label = refl

-- a member beside those of the command
one_member_more : spelt_in (codes "{\"tick\":{\"service\":\"web\",\"version\":\"v1\"}}") ≡ None
unfolding serde_json_on_literals command_of_kind plain_of_kind
one_member_more = refl

-- an object of two members is no command
two_kinds : spelt_in (codes "{\"abort\":{\"service\":\"web\"},\"tick\":{\"service\":\"web\"}}") ≡ None
unfolding serde_json_on_literals command_of_kind plain_of_kind
two_kinds = refl

-- a limit that the type of a report promises
too_great : spelt_in (codes "{\"report\":{\"entries\":[],\"run\":2,\"service\":\"web\"}}") ≡ None
unfolding serde_json_on_literals command_of_kind plain_of_kind report_in
too_great = refl
