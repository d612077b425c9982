-- Reports: why one is refused, what is recorded, and what its run's verdict brings.
use Rattle.std.specs.Prelude.{ℕ, ◌+◌, ◌==◌, ◌||◌, nat_lt, nat_le, Bool, true, false, if◌then◌else◌, List, [], ◌∷◌, ◌++◌, length, map, Option, Some, None}
use Rattle.std.specs.List.{list_any}
use Rattle.std.specs.Str.{bytes_eq}
use Rattle.canary_condition.specs.declared.outcome.Phase.{Phase}
use Rattle.canary_condition.specs.declared.outcome.Phase.TheVariants.{Pending, Running, Successful, Inconclusive, Error, Failed}
use Rattle.canary_condition.specs.Phases.{phase_of}
use Rattle.canary_metric.specs.Metrics.{MetricValue}
use Rattle.canary_metric.specs.Counts.{Counts, size}
use Rattle.canary_metric.specs.MetricPhases.{phase_of_counts, is_completed, due_of_counts}
use Rattle.canary_plan.specs.declared.report.Entry.{Entry}
use Rattle.canary_plan.specs.declared.line.LineEvent.TheVariants.{Completed, StepHeld, BackgroundHeld, AbortedBy}
use Rattle.canary_plan.specs.declared.refusal.Refusal.{Refusal}
use Rattle.canary_plan.specs.declared.refusal.Refusal.TheVariants.{UnknownRun, RunClosed, UnknownMetric, RepeatedMetric, MetricClosed, AlreadyRecorded, OutOfTurn, Spent, Future, TooEarly}
use Rattle.canary_plan.specs.Refusals.{first_that_holds, or_refusal}
use Rattle.canary_release.specs.declared.effect.Recorded.{Recorded}
use Rattle.canary_release.specs.declared.effect.Effect.TheVariants.{MeasurementRecorded}
use Rattle.canary_release.specs.declared.runs.OpenRun.{OpenRun}
use Rattle.canary_release.specs.declared.runs.Runs.{Runs}
use Rattle.canary_release.specs.declared.reply.Reported.{Reported}
use Rattle.canary_release.specs.Evolutions.{Evolution, with_service_state, apply_effect, tell, runs_now, open_run_now, run_verdict, close_run, end_open_runs}
use Rattle.canary_release.specs.Rules.Entering.{enter, abort}

-- a metric of an open run: its place there, from 0, and its tally
pub record Place : Type 0 where
  pub place : ℕ
  pub metric : MetricValue
  pub tally : Counts

-- the first metric of that name, of metrics and tallies of which the first stands at this place
abbrev pub place_from : ℕ → List ℕ → List MetricValue → List Counts → Option Place
place_from n name [] ts = None
place_from n name (m ∷ ms) [] = None
place_from n name (m ∷ ms) (t ∷ ts) =
    if bytes_eq m.name name then Some (record { place = n; metric = m; tally = t })
    else place_from (n + 1) name ms ts

-- where an entry's measurement belongs in its run
abbrev pub place_of : List MetricValue → OpenRun → Entry → Option Place
place_of ms r e = place_from 0 e.metric ms r.tallies

abbrev pub names_metric : List ℕ → Entry → Bool
names_metric name e = bytes_eq e.metric name

-- why an entry at an index is refused, after the entries before it, from its metric's tally
abbrev pub entry_refusal_at : ℕ → ℕ → List Entry → Entry → Place → Option Refusal
entry_refusal_at started t before e p =
    let at = length before in
    let n = size p.tally in
    let due = due_of_counts p.metric started p.tally in
    first_that_holds (
    (list_any (names_metric e.metric) before, RepeatedMetric at)
    ∷ (is_completed (phase_of_counts p.metric p.tally false), MetricClosed at)
    ∷ (nat_le e.ordinal n, AlreadyRecorded at)
    ∷ (nat_lt (n + 1) e.ordinal, OutOfTurn at (n + 1))
    ∷ (nat_le 1000000 n, Spent at)
    ∷ (nat_lt t e.taken, Future at)
    ∷ (nat_lt e.taken due, TooEarly at due)
    ∷ []
    )

abbrev pub entry_refusal : ℕ → ℕ → List Entry → Entry → Option Place → Option Refusal
entry_refusal started t before e None = Some (UnknownMetric (length before))
entry_refusal started t before e (Some p) = entry_refusal_at started t before e p

-- the refusal of the first bad entry, each looked at after those before it
abbrev pub entries_refusal : List MetricValue → OpenRun → ℕ → List Entry → List Entry
    → Option Refusal
entries_refusal ms r t before [] = None
entries_refusal ms r t before (e ∷ es) =
    or_refusal (entry_refusal r.started t before e (place_of ms r e))
    (entries_refusal ms r t (before ++ e ∷ []) es)

-- there is no run of that number
abbrev pub is_no_run : Runs → ℕ → Bool
is_no_run w run = run == 0 || nat_lt w.count run

-- why a report on a run is refused: there is no such run, or it isn't open, or an entry is bad
abbrev pub report_refusal : Evolution → ℕ → ℕ → List Entry → Option OpenRun → Option Refusal
report_refusal c t run es None = Some (if is_no_run (runs_now c) run then UnknownRun else RunClosed)
report_refusal c t run es (Some r) = entries_refusal r.analysis.metrics r t [] es

-- an entry as it is recorded, judged by its metric's conditions
abbrev pub recorded_at : OpenRun → Entry → Place → Recorded
recorded_at r e p =
    record {
      run = r.number;
      metric = p.place;
      ordinal = e.ordinal;
      taken = e.taken;
      outcome = e.outcome;
      phase = phase_of p.metric.success p.metric.failure e.outcome;
    }

abbrev pub recorded_if : OpenRun → Entry → Option Place → List Recorded
recorded_if r e None = []
recorded_if r e (Some p) = recorded_at r e p ∷ []

-- the measurements that the entries bring
abbrev pub brought : List MetricValue → OpenRun → List Entry → List Recorded
brought ms r [] = []
brought ms r (e ∷ es) = recorded_if r e (place_of ms r e) ++ brought ms r es

-- measurements are recorded, one after another
abbrev pub record_all : Evolution → List Recorded → Evolution
record_all c [] = c
record_all c (x ∷ xs) = record_all (apply_effect c (MeasurementRecorded x)) xs

-- the release is aborted by a run
abbrev pub abort_by_run : Evolution → ℕ → ℕ → Evolution
abort_by_run c run t = abort (tell c t (AbortedBy run)) t

abbrev pub hold_step : Evolution → ℕ → Evolution
hold_step c t =
    tell (with_service_state c (record c.service { step_hold = true })) t (StepHeld c.service.step)

-- an open step run is ended from outside
abbrev pub hold_background : Evolution → ℕ → Evolution
hold_background c t =
    end_open_runs
    (tell (with_service_state c (record c.service { background_hold = true })) t BackgroundHeld) t

-- what the verdict of a step run, or of a background run, brings once it is closed
abbrev pub consequence : Evolution → ℕ → Option ℕ → Phase → ℕ → Evolution
consequence c run step Failed t = abort_by_run c run t
consequence c run step Error t = abort_by_run c run t
consequence c run (Some i) Inconclusive t = hold_step c t
consequence c run None Inconclusive t = hold_background c t
consequence c run (Some i) Successful t = enter c (c.service.step + 1) t
consequence c run None Successful t = c
consequence c run step Pending t = c
consequence c run step Running t = c

abbrev pub complete : Evolution → OpenRun → Phase → ℕ → Evolution
complete c r v t =
    consequence (tell (close_run c r t false) t (Completed r.number v)) r.number r.step v t

-- an open run that is no longer Running is closed, with what follows
abbrev pub assess_run : Evolution → OpenRun → ℕ → Evolution
assess_run c r t =
    let v = run_verdict false r in if is_completed v then complete c r v t else c

abbrev pub assess : Evolution → Option OpenRun → ℕ → Evolution
assess c None t = c
assess c (Some r) t = assess_run c r t

-- the entries are recorded, and then the run is assessed once
abbrev pub report_on : Evolution → OpenRun → List Entry → ℕ → Evolution
report_on c r es t =
    let all = record_all c (brought r.analysis.metrics r es) in
    assess all (open_run_now all r.number) t

abbrev pub verdict_if : Evolution → Option OpenRun → Phase
verdict_if c None = Running
verdict_if c (Some r) = run_verdict false r

-- what a report adds to its reply: the phases of its entries, its run, and the verdict with them
abbrev pub reported_on : Evolution → OpenRun → List Entry → Reported
reported_on c r es =
    let xs = brought r.analysis.metrics r es in
    let all = record_all c xs in
    record {
      phases = map (λ (x : Recorded). x.phase) xs;
      run = r.number;
      verdict = verdict_if all (open_run_now all r.number);
    }
