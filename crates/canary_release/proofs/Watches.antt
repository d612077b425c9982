-- Every rule keeps the view of runs of its evolution, so what is kept at the end of a command is what is tracked of the past that has grown.
use Rattle.std.proofs.Common.{◌≡◌, ℕ, zero, suc, ◌+◌, ◌-◌, List, [], ◌∷◌, refl, ◌∙◌}
use Rattle.std.specs.Prelude.{true, false, if◌then◌else◌, Option, Some, None, Result, Ok, Err, ◌==◌, length, slice_get}
use Rattle.canary_condition.specs.declared.outcome.Phase.{Phase}
use Rattle.canary_condition.specs.declared.outcome.Phase.TheVariants.{Pending, Running, Successful, Inconclusive, Error, Failed}
use Rattle.canary_metric.specs.MetricPhases.{is_completed}
use Rattle.canary_plan.specs.Plans.{Templates}
use Rattle.canary_plan.specs.declared.step.Step.{Step}
use Rattle.canary_plan.specs.declared.step.Step.TheVariants.{SetWeight, Pause, Analysis}
use Rattle.canary_plan.specs.declared.report.Entry.{Entry}
use Rattle.canary_plan.specs.declared.command.Command.{Command}
use Rattle.canary_plan.specs.declared.command.Command.TheVariants.{Template, Service, Start, Promote, PromoteFull, Abort, Retry, Tick, Report}
use Rattle.canary_plan.specs.declared.line.LineEvent.TheVariants.{Started, Retried, Promoted, PromotedFull, Completed, AbortedBy, BackgroundHeld, Aborted as AbortLine}
use Rattle.canary_plan.specs.declared.refusal.Refusal.{Refusal}
use Rattle.canary_release.specs.declared.effect.Recorded.{Recorded}
use Rattle.canary_release.specs.declared.effect.Effect.TheVariants.{MeasurementRecorded}
use Rattle.canary_release.specs.declared.runs.OpenRun.{OpenRun}
use Rattle.canary_release.specs.declared.state.ReleaseState.TheVariants.{Aborted}
use Rattle.canary_release.specs.Evolutions.{Evolution, with_service_state, apply_effect, tell, runs_now, open_run_now, run_verdict, close_run, end_run, end_runs}
use Rattle.canary_release.specs.Rules.Entering.{begins_background, begin_background, open_background, finish, show_step, enter, abort, without_holds}
use Rattle.canary_release.specs.Rules.Passing.{next_move, is_by, move_at, chain_end, pass, judged_at}
use Rattle.canary_release.specs.Rules.Reports.{brought, record_all, report_refusal, consequence, complete, assess_run, assess, report_on}
use Rattle.canary_release.specs.Rules.Commands.{ModelResult, unless, succeeds_with, begun, started_at, start, promoted_to, retry, promote, promote_full, abort_by_command, start_refusal, retry_refusal, promote_refusal, progress_refusal, reports_if, act}
use Rattle.canary_release.specs.Desks.{passed_on, act_passed}

-- the same view of runs
abbrev pub Keeps : Evolution → Evolution → Type 0
Keeps c d = d.watch ≡ c.watch

ended : (at : ℕ) (c : Evolution) (rs : List OpenRun) → Keeps c (end_runs at c rs)
ended at c [] = refl
ended at c (r ∷ rs) = ended at (end_run at c r) rs

pub background : (c : Evolution) (i at : ℕ) → Keeps c (open_background c i at)
background c i at =
    elim (begins_background c.service.strategy.background i c.service.background)
    as (λ b. let d : Evolution = (if b then begin_background c at else c) in Keeps c d)
    [ true ↦ refl | false ↦ refl ]

shown : (c : Evolution) (s : Option Step) (i at : ℕ) → Keeps c (show_step c s i at)
shown c (Some (SetWeight percent)) i at = refl
shown c (Some (Pause None)) i at = refl
shown c (Some (Pause (Some seconds))) i at = refl
shown c (Some (Analysis names)) i at = refl
shown c None i at = refl

entered : (c : Evolution) (i at : ℕ) → Keeps c (enter c i at)
entered c i at =
    let there : Evolution = with_service_state c (record c.service { step = i; entered = at }) in
    let step : Option Step = slice_get c.service.strategy.steps i in
    elim (i == length c.service.strategy.steps)
    as (λ b. let d : Evolution = (if b then finish there at else show_step (open_background there i at) step i at) in Keeps c d)
    [ true ↦ ended at there (runs_now there).open_runs | false ↦ shown (open_background there i at) step i at ∙ background there i at ]

aborted : (c : Evolution) (at : ℕ) → Keeps c (abort c at)
aborted c at = let d : Evolution = with_service_state c (record (without_holds c.service) { state = Aborted }) in ended at d (runs_now d).open_runs

pub recorded : (c : Evolution) (xs : List Recorded) → Keeps c (record_all c xs)
recorded c [] = refl
recorded c (x ∷ xs) = recorded (apply_effect c (MeasurementRecorded x)) xs

follows : (c : Evolution) (run : ℕ) (step : Option ℕ) (v : Phase) (t : ℕ) → Keeps c (consequence c run step v t)
follows c run step Failed t = aborted (tell c t (AbortedBy run)) t
follows c run step Error t = aborted (tell c t (AbortedBy run)) t
follows c run (Some i) Inconclusive t = refl
follows c run None Inconclusive t = let d : Evolution = tell (with_service_state c (record c.service { background_hold = true })) t BackgroundHeld in ended t d (runs_now d).open_runs
follows c run (Some i) Successful t = entered c (c.service.step + 1) t
follows c run None Successful t = refl
follows c run step Pending t = refl
follows c run step Running t = refl

assessed_run : (c : Evolution) (r : OpenRun) (t : ℕ) → Keeps c (assess_run c r t)
assessed_run c r t =
    let v = run_verdict false r in
    elim (is_completed v)
    as (λ b. let d : Evolution = (if b then complete c r v t else c) in Keeps c d)
    [ true ↦ follows (tell (close_run c r t false) t (Completed r.number v)) r.number r.step v t | false ↦ refl ]

assessed : (c : Evolution) (r : Option OpenRun) (t : ℕ) → Keeps c (assess c r t)
assessed c None t = refl
assessed c (Some r) t = assessed_run c r t

reported : (c : Evolution) (r : OpenRun) (es : List Entry) (t : ℕ) → Keeps c (report_on c r es t)
reported c r es t =
    let all = record_all c (brought r.analysis.metrics r es) in
    assessed all (open_run_now all r.number) t ∙ recorded c (brought r.analysis.metrics r es)

pub moved : (c : Evolution) (o : Option ℕ) → Keeps c (move_at c o)
moved c None = refl
moved c (Some e) = entered c (c.service.step + 1) e

chained : (n t : ℕ) (c : Evolution) → Keeps c (chain_end n t c)
chained zero t c = refl
chained (suc n) t c =
    let move : Option ℕ = next_move c.service in
    elim (is_by t move)
    as (λ b. let d : Evolution = elim b [ true ↦ chain_end n t (move_at c move) | false ↦ c ] in Keeps c d)
    [ true ↦ chained n t (move_at c move) ∙ moved c move | false ↦ refl ]

pub passed : (c : Evolution) (t : ℕ) → Keeps c (pass c t)
passed c t = chained (length c.service.strategy.steps - c.service.step) (judged_at c.service t) c

-- what a command leads to, if it is not refused
abbrev pub KeepsIf : Evolution → Result ModelResult Refusal → Type 0
KeepsIf c (Ok a) = Keeps c a.evolution
KeepsIf c (Err refusal) = Unit {0}

unless_keeps : (c : Evolution) (r : Option Refusal) (a : ModelResult) → Keeps c a.evolution → KeepsIf c (unless r a)
unless_keeps c None a k = k
unless_keeps c (Some refusal) a k = tt

reports_keep : (c : Evolution) (r : Option OpenRun) (es : List Entry) (t : ℕ) → Keeps c (reports_if c r es t).evolution
reports_keep c None es t = refl
reports_keep c (Some r) es t = reported c r es t

pub acted : (known : Templates) (command : Command) (c : Evolution) (t : ℕ) → KeepsIf c (act known command c t)
acted known (Start name version) c t = unless_keeps c (start_refusal known c version) (succeeds_with (start known c t version)) (entered (tell (begun known c version) t (Started version)) (started_at c.service version) t)
acted known (Promote name) c t = unless_keeps c (promote_refusal c.service) (succeeds_with (promote c t)) (entered (tell (with_service_state c (without_holds c.service)) t Promoted) (promoted_to c.service) t)
acted known (PromoteFull name) c t = unless_keeps c (progress_refusal c.service) (succeeds_with (promote_full c t)) (entered (tell c t PromotedFull) (length c.service.strategy.steps) t)
acted known (Abort name) c t = unless_keeps c (progress_refusal c.service) (succeeds_with (abort_by_command c t)) (aborted (tell c t AbortLine) t)
acted known (Retry name) c t = unless_keeps c (retry_refusal known c) (succeeds_with (retry known c t)) (entered (tell (begun known c c.service.version) t (Retried c.service.version)) 0 t)
acted known (Tick name) c t = refl
acted known (Report report) c t = unless_keeps c (report_refusal c t report.run report.entries (open_run_now c report.run)) (reports_if c (open_run_now c report.run) report.entries t) (reports_keep c (open_run_now c report.run) report.entries t)
acted known (Service spec) c t = tt
acted known (Template spec) c t = tt

passed_keeps : (c d : Evolution) (r : Result ModelResult Refusal) (t : ℕ) → Keeps c d → KeepsIf d r → KeepsIf c (passed_on r t)
passed_keeps c d (Ok a) t k h = passed a.evolution t ∙ h ∙ k
passed_keeps c d (Err refusal) t k h = tt

pub acted_passed : (known : Templates) (command : Command) (c : Evolution) (now : ℕ) → KeepsIf c (act_passed known command c now)
acted_passed known command c now = let t = judged_at c.service now in passed_keeps c (pass c now) (act known command (pass c now) t) t (passed c now) (acted known command (pass c now) t)
