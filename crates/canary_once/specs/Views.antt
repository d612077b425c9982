-- The exact bytes of the replies to queries.
use Rattle.std.specs.Prelude.{ℕ, ◌+◌, ◌||◌, Bool, true, false, if◌then◌else◌, List, ◌++◌, map, Option, Some, None, is_some, codes, decimal}
use Rattle.std.specs.List.{zip}
use Rattle.std.specs.FinMap.{get}
use Rattle.canary_condition.specs.PhaseTexts.{phase_text}
use Rattle.canary_condition.specs.declared.outcome.Phase.{Phase}
use Rattle.canary_condition.specs.declared.outcome.Phase.TheVariants.{Running}
use Rattle.canary_metric.specs.Metrics.{MetricValue}
use Rattle.canary_metric.specs.Counts.{Counts}
use Rattle.canary_metric.specs.MetricPhases.{phase_of_counts, is_completed, due_of_counts}
use Rattle.canary_plan.specs.Lines.{line_text}
use Rattle.canary_plan.specs.declared.line.Line.{Line}
use Rattle.canary_release.specs.declared.effect.Closing.{Closing}
use Rattle.canary_release.specs.declared.runs.OpenRun.{OpenRun}
use Rattle.canary_release.specs.declared.runs.Runs.{Runs}
use Rattle.canary_release.specs.declared.reply.Reply.{Reply}
use Rattle.canary_release.specs.declared.reply.ReplyStatus.TheVariants.{Accepted, NotFound}
use Rattle.canary_release.specs.declared.state.ServiceState.{ServiceState}
use Rattle.canary_release.specs.Services.{status, weight}
use Rattle.canary_release.specs.Pasts.{tracked}
use Rattle.canary_release.specs.Replies.{quoted, bracketed, status_text, code_alone}
use Rattle.canary_release.specs.Desks.{ModelService, Desk}
use Rattle.canary_release.specs.Laws.{passed_to}
use Rattle.canary_once.specs.declared.event.Query.{Query}
use Rattle.canary_once.specs.declared.event.Query.TheVariants.{Service, History, Run}
use Rattle.canary_once.specs.declared.record.RunRecord.{RunRecord}
use Rattle.canary_once.specs.Records.{record_numbered}

abbrev pub null_or : Option ℕ → List ℕ
null_or None = codes "null"
null_or (Some n) = decimal n

abbrev pub bool_text : Bool → List ℕ
bool_text true = codes "true"
bool_text false = codes "false"

abbrev pub hold_text : Bool → Bool → List ℕ
hold_text false false = codes "none"
hold_text true false = codes "step"
hold_text false true = codes "background"
hold_text true true = codes "both"

-- A service.

abbrev pub number_text : OpenRun → List ℕ
number_text r = decimal r.number

-- {"code":"ok","hold":HOLD,"moment":MOMENT,"open":[..]
abbrev pub service_front : ServiceState → Runs → List ℕ
service_front s runs =
    codes "{\"code\":\"ok\",\"hold\":\""
    ++ (hold_text s.step_hold s.background_hold
    ++ (codes "\",\"moment\":"
    ++ (decimal s.last ++ (codes ",\"open\":" ++ bracketed (map number_text runs.open_runs)))))

-- ,"runs":RUNS,"service":NAME,"stable":VERSION
abbrev pub service_middle : ServiceState → ℕ → List ℕ
service_middle s count =
    codes ",\"runs\":"
    ++ (decimal count
    ++ (codes ",\"service\":\""
    ++ (s.name ++ (codes "\",\"stable\":\"" ++ (s.stable ++ codes "\"")))))

-- ,"status":STATUS,"step":STEP,"version":VERSION,"weight":WEIGHT}
abbrev pub service_back : ServiceState → List ℕ
service_back s =
    codes ",\"status\":\""
    ++ (status_text (status s)
    ++ (codes "\",\"step\":"
    ++ (decimal s.step
    ++ (codes ",\"version\":\""
    ++ (s.version ++ (codes "\",\"weight\":" ++ (decimal (weight s) ++ codes "}")))))))

abbrev pub service_view : ServiceState → Runs → List ℕ
service_view s runs = service_front s runs ++ (service_middle s runs.count ++ service_back s)

-- A history.

abbrev pub quoted_line : Line → List ℕ
quoted_line l = quoted (line_text l)

-- {"code":"ok","lines":[..],"service":NAME}
abbrev pub history_view : List ℕ → List Line → List ℕ
history_view name lines =
    codes "{\"code\":\"ok\",\"lines\":"
    ++ (bracketed (map quoted_line lines) ++ (codes ",\"service\":\"" ++ (name ++ codes "\"}")))

-- A run.

-- when a metric is due next; null if it is completed or its run is closed
abbrev pub due_text : RunRecord → MetricValue → Counts → List ℕ
due_text r m t =
    if is_completed (phase_of_counts m t false) || is_some r.closed then codes "null"
    else decimal (due_of_counts m r.started t)

-- {"consecutive":N,"counted":N,"dryRun":BOOL,"due":DUE
abbrev pub metric_front : RunRecord → MetricValue → Counts → List ℕ
metric_front r m t =
    codes "{\"consecutive\":"
    ++ (decimal t.consecutive
    ++ (codes ",\"counted\":"
    ++ (decimal t.counted
    ++ (codes ",\"dryRun\":"
    ++ (bool_text m.dry_run ++ (codes ",\"due\":" ++ due_text r m t))))))

-- ,"errors":N,"failed":N,"inconclusive":N,"measurements":N
abbrev pub metric_middle : Counts → List ℕ
metric_middle t =
    codes ",\"errors\":"
    ++ (decimal t.errors
    ++ (codes ",\"failed\":"
    ++ (decimal t.failed
    ++ (codes ",\"inconclusive\":"
    ++ (decimal t.inconclusive
    ++ (codes ",\"measurements\":" ++ decimal (t.counted + t.errors)))))))

-- ,"name":NAME,"passes":N,"phase":PHASE}, the phase being that with closing if the run is closed
abbrev pub metric_back : RunRecord → MetricValue → Counts → List ℕ
metric_back r m t =
    codes ",\"name\":\""
    ++ (m.name
    ++ (codes "\",\"passes\":"
    ++ (decimal t.passes
    ++ (codes ",\"phase\":\""
    ++ (phase_text (phase_of_counts m t (is_some r.closed)) ++ codes "\"}")))))

abbrev pub metric_view : RunRecord → MetricValue × Counts → List ℕ
metric_view r w = metric_front r w.0 w.1 ++ (metric_middle w.1 ++ metric_back r w.0 w.1)

abbrev pub closed_at : Option Closing → Option ℕ
closed_at None = None
closed_at (Some x) = Some x.at

-- a run's verdict: Running while it is open
abbrev pub verdict_in : Option Closing → Phase
verdict_in None = Running
verdict_in (Some x) = x.verdict

-- {"closed":MOMENT or null,"code":"ok","metrics":[..]
abbrev pub run_front : List MetricValue → RunRecord → List ℕ
run_front metrics r =
    codes "{\"closed\":"
    ++ (null_or (closed_at r.closed)
    ++ (codes ",\"code\":\"ok\",\"metrics\":"
    ++ bracketed (map (metric_view r) (zip metrics r.tallies))))

-- ,"run":RUN,"service":NAME,"started":MOMENT
abbrev pub run_middle : List ℕ → RunRecord → List ℕ
run_middle name r =
    codes ",\"run\":"
    ++ (decimal r.number
    ++ (codes ",\"service\":\"" ++ (name ++ (codes "\",\"started\":" ++ decimal r.started))))

-- ,"step":STEP or null,"verdict":PHASE}
abbrev pub run_back : RunRecord → List ℕ
run_back r =
    codes ",\"step\":"
    ++ (null_or r.step
    ++ (codes ",\"verdict\":\"" ++ (phase_text (verdict_in r.closed) ++ codes "\"}")))

abbrev pub run_view : List ℕ → List MetricValue → RunRecord → List ℕ
run_view name metrics r = run_front metrics r ++ (run_middle name r ++ run_back r)

-- Replies.

abbrev pub found : List ℕ → Reply
found body = record { status = Accepted; body = body }

abbrev pub not_found : List ℕ → Reply
not_found code = record { status = NotFound; body = code_alone code }

abbrev pub run_reply : ServiceState → Option RunRecord → Reply
run_reply s None = not_found (codes "unknown-run")
run_reply s (Some r) = found (run_view s.name r.analysis.metrics r)

-- the reply to a query, on the service as it is at the query's moment
abbrev pub view_passed : ModelService → Query → Reply
view_passed m (Service name) = found (service_view m.service (tracked m.past))
view_passed m (History name) = found (history_view m.service.name m.past.history)
view_passed m (Run name number) = run_reply m.service (record_numbered m.past number)

abbrev pub view_service : Option ModelService → ℕ → Query → Reply
view_service None moment query = not_found (codes "unknown-service")
view_service (Some m) moment query = view_passed (passed_to moment m) query

-- the service that a query asks for
abbrev pub asked_of : Query → List ℕ
asked_of (Service name) = name
asked_of (History name) = name
asked_of (Run name number) = name

-- the reply to a query: the desk is shown a copy of the service, passed to the moment
abbrev pub view_of : Desk → ℕ → Query → Reply
view_of desk moment query = view_service (get desk.services (asked_of query)) moment query
