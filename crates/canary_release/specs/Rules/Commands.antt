-- What each command does to a service that was passed to t, and why it is refused.
use Rattle.std.specs.Prelude.{ℕ, ◌+◌, ◌-◌, ◌&&◌, nat_lt, not, Bool, true, false, if◌then◌else◌, List, [], ◌∷◌, length, Option, Some, None, Result, Ok, Err}
use Rattle.std.specs.Str.{bytes_eq}
use Rattle.canary_plan.specs.declared.report.Entry.{Entry}
use Rattle.canary_plan.specs.declared.command.Command.{Command}
use Rattle.canary_plan.specs.declared.command.Command.TheVariants.{Template as AddTemplate, Service as AddService, Start, Promote, PromoteFull, Abort, Retry, Tick, Report}
use Rattle.canary_plan.specs.declared.line.LineEvent.{LineEvent}
use Rattle.canary_plan.specs.declared.line.LineEvent.TheVariants.{Started, Retried, Promoted, PromotedFull, Aborted as AbortLine}
use Rattle.canary_plan.specs.declared.refusal.Refusal.{Refusal}
use Rattle.canary_plan.specs.declared.refusal.Refusal.TheVariants.{ServiceExists, InProgress as GoesOn, AlreadyStable, NotInProgress, NotPaused, NotAborted, RunsSpent}
use Rattle.canary_plan.specs.Plans.{Templates, bound_of}
use Rattle.canary_plan.specs.PlanRefusals.{bound_refusal}
use Rattle.canary_plan.specs.Refusals.{first_that_holds, or_refusal}
use Rattle.canary_release.specs.declared.state.ReleaseState.TheVariants.{InProgress}
use Rattle.canary_release.specs.declared.state.Status.{Status}
use Rattle.canary_release.specs.declared.state.Status.TheVariants.{Healthy, Degraded, Paused, Progressing}
use Rattle.canary_release.specs.declared.state.ServiceState.{ServiceState}
use Rattle.canary_release.specs.declared.runs.OpenRun.{OpenRun}
use Rattle.canary_release.specs.declared.runs.Runs.{Runs}
use Rattle.canary_release.specs.Services.{is_in_progress, is_aborted, is_done, status}
use Rattle.canary_release.specs.Evolutions.{Evolution, with_service_state, tell, runs_now, open_run_now}
use Rattle.canary_release.specs.Rules.Entering.{enter, abort, without_holds}
use Rattle.canary_release.specs.Replies.{service_text, report_text}
use Rattle.canary_release.specs.Rules.Reports.{report_refusal, report_on, reported_on}

-- Why a command is refused.

-- fewer than 66 run numbers are left
abbrev pub is_spent : Runs → Bool
is_spent w = nat_lt (1000000 - w.count) 66

abbrev pub is_progressing : Status → Bool
is_progressing Progressing = true
is_progressing Healthy = false
is_progressing Degraded = false
is_progressing Paused = false

abbrev pub start_refusal_at : Evolution → List ℕ → Option Refusal
start_refusal_at c version =
    let s = c.service in
    first_that_holds (
    (is_in_progress s.state, GoesOn)
    ∷ (is_done s.state && bytes_eq version s.stable, AlreadyStable)
    ∷ (is_spent (runs_now c), RunsSpent)
    ∷ []
    )

abbrev pub retry_refusal_at : Evolution → Option Refusal
retry_refusal_at c =
    first_that_holds
    ((not (is_aborted c.service.state), NotAborted) ∷ (is_spent (runs_now c), RunsSpent) ∷ [])

-- that the strategy can't be bound to the newest revisions comes first

abbrev pub start_refusal : Templates → Evolution → List ℕ → Option Refusal
start_refusal known c version =
    or_refusal (bound_refusal known c.service.strategy) (start_refusal_at c version)

abbrev pub retry_refusal : Templates → Evolution → Option Refusal
retry_refusal known c = or_refusal (bound_refusal known c.service.strategy) (retry_refusal_at c)

abbrev pub promote_refusal : ServiceState → Option Refusal
promote_refusal s =
    first_that_holds
    ((not (is_in_progress s.state), NotInProgress) ∷ (is_progressing (status s), NotPaused) ∷ [])

-- of PromoteFull and Abort
abbrev pub progress_refusal : ServiceState → Option Refusal
progress_refusal s = first_that_holds ((not (is_in_progress s.state), NotInProgress) ∷ [])

-- What it does.

-- an attempt with that version is in progress, bound to these templates, with no holds and no
-- background run yet
abbrev pub begun : Templates → Evolution → List ℕ → Evolution
begun known c version =
    with_service_state c
    (record (without_holds c.service) {
      bound = bound_of known c.service.strategy;
      version = version;
      state = InProgress;
      background = false;
    })

-- an attempt with that version, from that step
abbrev pub begin : Templates → Evolution → ℕ → List ℕ → LineEvent → ℕ → Evolution
begin known c t version event i = enter (tell (begun known c version) t event) i t

-- a start is at step 0, or for the stable version after an abort at the end
abbrev pub started_at : ServiceState → List ℕ → ℕ
started_at s version =
    if is_aborted s.state && bytes_eq version s.stable then length s.strategy.steps else 0

abbrev pub start : Templates → Evolution → ℕ → List ℕ → Evolution
start known c t version = begin known c t version (Started version) (started_at c.service version)

abbrev pub retry : Templates → Evolution → ℕ → Evolution
retry known c t = begin known c t c.service.version (Retried c.service.version) 0

-- a promotion leads with the step hold to the next step, else with the background hold to the same
-- anew, else from a pause to the next
abbrev pub promoted_to : ServiceState → ℕ
promoted_to s =
    if s.step_hold then s.step + 1 else (if s.background_hold then s.step else s.step + 1)

abbrev pub promote : Evolution → ℕ → Evolution
promote c t =
    enter (tell (with_service_state c (without_holds c.service)) t Promoted)
    (promoted_to c.service) t

abbrev pub promote_full : Evolution → ℕ → Evolution
promote_full c t = enter (tell c t PromotedFull) (length c.service.strategy.steps) t

abbrev pub abort_by_command : Evolution → ℕ → Evolution
abort_by_command c t = abort (tell c t AbortLine) t

-- The table.

-- where a command leads, and the text that shows how the service stands then
pub record ModelResult : Type 0 where
  pub evolution : Evolution
  pub shows : ServiceState → List ℕ

abbrev pub succeeds_with : Evolution → ModelResult
succeeds_with c = record { evolution = c; shows = service_text }

-- the refusal, or else where it leads
abbrev pub unless : Option Refusal → ModelResult → Result ModelResult Refusal
unless None a = Ok a
unless (Some refusal) a = Err refusal

-- a report shows its entries' phases and the run's verdict, too
abbrev pub reports : Evolution → OpenRun → List Entry → ℕ → ModelResult
reports c r entries t =
    record { evolution = report_on c r entries t; shows = report_text (reported_on c r entries) }

abbrev pub reports_if : Evolution → Option OpenRun → List Entry → ℕ → ModelResult
reports_if c None entries t = succeeds_with c
reports_if c (Some r) entries t = reports c r entries t

-- where a command leads a service that was passed to t, or why it is refused, from the templates
-- that are known; a Template names no service, and never comes here
abbrev pub act : Templates → Command → Evolution → ℕ → Result ModelResult Refusal
act known (Start name version) c t =
    unless (start_refusal known c version) (succeeds_with (start known c t version))
act known (Promote name) c t = unless (promote_refusal c.service) (succeeds_with (promote c t))
act known (PromoteFull name) c t =
    unless (progress_refusal c.service) (succeeds_with (promote_full c t))
act known (Abort name) c t =
    unless (progress_refusal c.service) (succeeds_with (abort_by_command c t))
act known (Retry name) c t = unless (retry_refusal known c) (succeeds_with (retry known c t))
act known (Tick name) c t = Ok (succeeds_with c)
act known (Report report) c t =
    let r = open_run_now c report.run in unless (report_refusal c t report.run report.entries r)
    (reports_if c r report.entries t)
act known (AddService spec) c t = Err ServiceExists
act known (AddTemplate spec) c t = Err ServiceExists
