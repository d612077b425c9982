-- What the worked rows are made of: moments, commands, replies and lines.
use Rattle.std.proofs.Common.{ℕ, List, [], ◌∷◌, refl}
use Rattle.std.specs.Prelude.{IsTrue, Bool, Option, Some, None, codes, pos, length, map}
use Rattle.std.specs.FinMap.{get}
use Rattle.canary_condition.specs.declared.outcome.Value.TheVariants.{Whole}
use Rattle.canary_condition.specs.declared.outcome.Outcome.TheVariants.{Result as Brought, Failure}
use Rattle.canary_metric.specs.Counts.{Counts}
use Rattle.canary_plan.specs.declared.step.Step.{Step}
use Rattle.canary_plan.specs.declared.step.Step.TheVariants.{SetWeight, Pause, Analysis}
use Rattle.canary_plan.specs.declared.service.Background.{Background}
use Rattle.canary_plan.specs.declared.template_spec.MetricSpec.{MetricSpec}
use Rattle.canary_plan.specs.declared.report.Entry.{Entry}
use Rattle.canary_plan.specs.declared.command.Command.{Command}
use Rattle.canary_plan.specs.declared.command.Command.TheVariants.{Template, Service, Start, Report}
use Rattle.canary_plan.specs.declared.line.Line.{Line}
use Rattle.canary_plan.specs.Limits.{are_metric_limits, is_metric_count, is_ordinal, are_report_limits}
use Rattle.canary_plan.specs.Lines.{line_text}
use Rattle.canary_release.specs.declared.reply.Reply.{Reply}
use Rattle.canary_release.specs.declared.reply.ReplyStatus.TheVariants.{Accepted, Refused}
use Rattle.canary_release.specs.declared.runs.OpenRun.{OpenRun}
use Rattle.canary_release.specs.Pasts.{Past, no_past, tracked}
use Rattle.canary_release.specs.Desks.{ModelService, machine, no_desk}

-- What a row says.

-- the replies to these commands, after the first ones came to an empty desk
abbrev pub replies_after : List (ℕ × Command) → List (ℕ × Command) → List Reply
replies_after first xs = (machine (machine no_desk first).desk xs).replies

-- the service of a name, after these commands came to an empty desk
abbrev pub service_after : List (ℕ × Command) → List ℕ → Option ModelService
service_after xs name = get (machine no_desk xs).desk.services name

-- the texts of a history's lines
abbrev pub lines_of : Option ModelService → List (List ℕ)
lines_of None = []
lines_of (Some m) = map line_text m.past.history

-- the tallies of the open runs
abbrev pub tallies_of : Option ModelService → List (List Counts)
tallies_of None = []
tallies_of (Some m) = map (λ (r : OpenRun). r.tallies) (tracked m.past).open_runs

-- the step hold and the background hold
abbrev pub holds_of : Option ModelService → List (Bool × Bool)
holds_of None = []
holds_of (Some m) = (m.service.step_hold, m.service.background_hold) ∷ []

abbrev pub ok : List ℕ → Reply
ok body = record { status = Accepted; body = body }

abbrev pub no : List ℕ → Reply
no body = record { status = Refused; body = body }

-- a past with no runs: lines alone
abbrev pub told : List Line → Past
told lines = record no_past { history = lines }

-- Names and moments.

-- 2026-01-01T00:00:00Z
abbrev pub b : ℕ
b = 1767225600

abbrev pub web : List ℕ
web = codes "web"

abbrev pub v1 : List ℕ
v1 = codes "v1"

abbrev pub v2 : List ℕ
v2 = codes "v2"

abbrev pub v3 : List ℕ
v3 = codes "v3"

abbrev pub m : List ℕ
m = codes "m"

-- Services.

-- that service with v1, these steps and this background analysis
abbrev pub service : List ℕ → List Step → Option Background → Command
service name steps background = Service (record { name = name; version = v1; steps = steps; background = background })

-- the same, with no background analysis
abbrev pub add : List ℕ → List Step → Command
add name steps = service name steps None

abbrev pub two_pauses : List Step
two_pauses = SetWeight 20 ∷ Pause None ∷ SetWeight 50 ∷ Pause None ∷ []

abbrev pub background : List ℕ → ℕ → Option Background
background name step = Some (record { templates = name ∷ []; starting_step = step })

-- Templates.

-- a metric with all at its default
abbrev pub metric : List ℕ → MetricSpec
metric name =
    record {
      name = name;
      success = None;
      failure = None;
      interval = None;
      initial_delay = 0;
      count = None;
      pass_after = None;
      failure_limit = 0;
      inconclusive_limit = 0;
      consecutive_error_limit = 4;
      within = refl;
    }

abbrev pub with_success : (m : MetricSpec) (text : List ℕ) → IsTrue (are_metric_limits (Some text) m.failure m.count m.pass_after m.failure_limit m.inconclusive_limit m.consecutive_error_limit) → MetricSpec
with_success m text h = record m { success = Some text; within = h }

abbrev pub with_failure : (m : MetricSpec) (text : List ℕ) → IsTrue (are_metric_limits m.success (Some text) m.count m.pass_after m.failure_limit m.inconclusive_limit m.consecutive_error_limit) → MetricSpec
with_failure m text h = record m { failure = Some text; within = h }

abbrev pub every : MetricSpec → ℕ → MetricSpec
every m seconds = record m { interval = Some seconds }

-- above 10 successful, below 5 failed, and inconclusive between
abbrev pub above_ten : List ℕ → MetricSpec
above_ten name = with_failure (with_success (metric name) (codes "result > 10") refl) (codes "result < 5") refl

-- 0 successful
abbrev pub zero_is_good : List ℕ → MetricSpec
zero_is_good name = with_success (metric name) (codes "result == 0") refl

abbrev pub template : (name : List ℕ) (metrics : List MetricSpec) (dry_run : List (List ℕ)) → IsTrue (is_metric_count (length metrics)) → Command
template name metrics dry_run h = Template (record { name = name; metrics = metrics; dry_run = dry_run; within = h })

-- Reports.

abbrev pub result : (metric : List ℕ) (ordinal taken n : ℕ) → IsTrue (is_ordinal ordinal) → Entry
result metric ordinal taken n h = record { metric = metric; ordinal = ordinal; taken = taken; outcome = Brought (Whole (pos n)); within = h }

abbrev pub failure : (metric : List ℕ) (ordinal taken : ℕ) → IsTrue (is_ordinal ordinal) → Entry
failure metric ordinal taken h = record { metric = metric; ordinal = ordinal; taken = taken; outcome = Failure (codes "down"); within = h }

abbrev pub report_on : (run : ℕ) (entries : List Entry) → IsTrue (are_report_limits run (length entries)) → Command
report_on run entries h = Report (record { service = web; run = run; entries = entries; within = h })

-- a report on run 1
abbrev pub report : Entry → Command
report e = report_on 1 (e ∷ []) refl

-- Setups.

-- a release at a pause, with a background run of that metric
abbrev pub background_setup_with : MetricSpec → List (ℕ × Command)
background_setup_with metric =
    (b, template (codes "errs") (metric ∷ []) [] refl)
    ∷ (b, service web (SetWeight 20 ∷ Pause None ∷ []) (background (codes "errs") 0))
    ∷ (b, Start web v2)
    ∷ []

abbrev pub background_setup : List (ℕ × Command)
background_setup = background_setup_with (every (metric m) 60)

-- a release at an analysis of those metrics
abbrev pub step_setup : (metrics : List MetricSpec) (dry_run : List (List ℕ)) → IsTrue (is_metric_count (length metrics)) → List (ℕ × Command)
step_setup metrics dry_run h =
    (b, template (codes "t") metrics dry_run h)
    ∷ (b, add web (SetWeight 10 ∷ Analysis (codes "t" ∷ []) ∷ SetWeight 60 ∷ Pause None ∷ []))
    ∷ (b, Start web v2)
    ∷ []
