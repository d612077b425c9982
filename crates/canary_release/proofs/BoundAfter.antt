-- A Start and a Retry bind a service to the templates that are known, and no other command changes
-- what it is bound to.
use Rattle.std.proofs.Common.{◌≡◌, ℕ, ◌+◌, List, length, refl, ap, ◌∙◌, subst}
use Rattle.std.specs.Prelude.{true, false, if◌then◌else◌, Option, Some, None, Result, Ok, Err}
use Rattle.canary_condition.specs.declared.outcome.Phase.{Phase}
use Rattle.canary_condition.specs.declared.outcome.Phase.TheVariants.{Pending, Running, Successful, Inconclusive, Error, Failed}
use Rattle.canary_metric.specs.MetricPhases.{is_completed}
use Rattle.canary_plan.specs.declared.report.Entry.{Entry}
use Rattle.canary_plan.specs.declared.command.Command.{Command}
use Rattle.canary_plan.specs.declared.command.Command.TheVariants.{Template as AddTemplate, Service as AddService, Start, Promote, PromoteFull, Abort, Retry, Tick, Report}
use Rattle.canary_plan.specs.declared.line.LineEvent.TheVariants.{Started, Retried, Promoted, PromotedFull, Aborted as AbortLine, AbortedBy, BackgroundHeld, Completed}
use Rattle.canary_plan.specs.declared.refusal.Refusal.{Refusal}
use Rattle.canary_plan.specs.Plans.{Templates, bound_of}
use Rattle.canary_release.specs.declared.runs.OpenRun.{OpenRun}
use Rattle.canary_release.specs.declared.state.ServiceState.{ServiceState}
use Rattle.canary_release.specs.declared.state.ReleaseState.TheVariants.{Aborted}
use Rattle.canary_release.specs.Evolutions.{Evolution, with_service_state, tell, runs_now, run_verdict, open_run_now, close_run}
use Rattle.canary_release.specs.Rules.Entering.{without_holds, abort}
use Rattle.canary_release.specs.Rules.Passing.{pass, judged_at}
use Rattle.canary_release.specs.Rules.Reports.{report_refusal, brought, record_all, hold_background, consequence, complete, assess, report_on}
use Rattle.canary_release.specs.Rules.Commands.{start_refusal, retry_refusal, promote_refusal, progress_refusal, begun, started_at, start, retry, promoted_to, promote, promote_full, abort_by_command, ModelResult, succeeds_with, unless, reports_if, act}
use Rattle.canary_release.specs.Desks.{ModelService, passed_on, act_passed}
use Rattle.canary_release.specs.Effects.{bound_after}
use Rattle.canary_release.proofs.Keeping.{ended_service_state, recorded_service_state, enter_keeps, passed_keeps}

-- What aborts, holds and reports leave alone.

aborted_keeps : (c : Evolution) (at : ℕ) → (abort c at).service.bound ≡ c.service.bound
aborted_keeps c at =
    let d : Evolution = with_service_state c (record (without_holds c.service) { state = Aborted }) in
    ap (λ (s : ServiceState). s.bound) (ended_service_state at d (runs_now d).open_runs)

held_keeps : (c : Evolution) (t : ℕ) → (hold_background c t).service.bound ≡ c.service.bound
held_keeps c t =
    let d : Evolution = tell (with_service_state c (record c.service { background_hold = true })) t BackgroundHeld in
    ap (λ (s : ServiceState). s.bound) (ended_service_state t d (runs_now d).open_runs)

brought_keeps : (c : Evolution) (run : ℕ) (step : Option ℕ) (v : Phase) (t : ℕ) → (consequence c run step v t).service.bound ≡ c.service.bound
brought_keeps c run step Failed t = aborted_keeps (tell c t (AbortedBy run)) t
brought_keeps c run step Error t = aborted_keeps (tell c t (AbortedBy run)) t
brought_keeps c run (Some i) Inconclusive t = refl
brought_keeps c run None Inconclusive t = held_keeps c t
brought_keeps c run (Some i) Successful t = (enter_keeps c (c.service.step + 1) t).3
brought_keeps c run None Successful t = refl
brought_keeps c run step Pending t = refl
brought_keeps c run step Running t = refl

assessed_keeps : (c : Evolution) (o : Option OpenRun) (t : ℕ) → (assess c o t).service.bound ≡ c.service.bound
assessed_keeps c None t = refl
assessed_keeps c (Some r) t =
    let v : Phase = run_verdict false r in
    elim (is_completed v)
    as (λ b. (let d : Evolution = (if b then complete c r v t else c) in d).service.bound ≡ c.service.bound)
    [ true ↦ brought_keeps (tell (close_run c r t false) t (Completed r.number v)) r.number r.step v t | false ↦ refl ]

reported_keeps : (c : Evolution) (r : OpenRun) (es : List Entry) (t : ℕ) → (report_on c r es t).service.bound ≡ c.service.bound
reported_keeps c r es t =
    let all : Evolution = record_all c (brought r.analysis.metrics r es) in
    assessed_keeps all (open_run_now all r.number) t ∙ ap (λ (s : ServiceState). s.bound) (recorded_service_state c (brought r.analysis.metrics r es))

reports_keep : (c : Evolution) (o : Option OpenRun) (es : List Entry) (t : ℕ) → (reports_if c o es t).evolution.service.bound ≡ c.service.bound
reports_keep c None es t = refl
reports_keep c (Some r) es t = reported_keeps c r es t

-- What a command on a service binds.

module _ (known : Templates) (m : ModelService) where
  -- where a command leads, the service is bound as the command binds it
  abbrev BindsIf : Command → Result ModelResult Refusal → Type 0
  BindsIf command (Ok a) = a.evolution.service.bound ≡ bound_after known command (Some m) m.service.strategy
  BindsIf command (Err refusal) = Unit {0}

  unless_binds : (command : Command) (refusal : Option Refusal) (a : ModelResult) → a.evolution.service.bound ≡ bound_after known command (Some m) m.service.strategy → BindsIf command (unless refusal a)
  unless_binds command None a e = e
  unless_binds command (Some refusal) a e = tt

  acted : (command : Command) (c : Evolution) (t : ℕ) → c.service.strategy ≡ m.service.strategy → c.service.bound ≡ m.service.bound → BindsIf command (act known command c t)
  acted (Start name version) c t same bound =
      unless_binds (Start name version) (start_refusal known c version) (succeeds_with (start known c t version))
      ((enter_keeps (tell (begun known c version) t (Started version)) (started_at c.service version) t).3 ∙ ap (bound_of known) same)
  acted (Promote name) c t same bound =
      unless_binds (Promote name) (promote_refusal c.service) (succeeds_with (promote c t)) ((enter_keeps (tell (with_service_state c (without_holds c.service)) t Promoted) (promoted_to c.service) t).3 ∙ bound)
  acted (PromoteFull name) c t same bound =
      unless_binds (PromoteFull name) (progress_refusal c.service) (succeeds_with (promote_full c t)) ((enter_keeps (tell c t PromotedFull) (length c.service.strategy.steps) t).3 ∙ bound)
  acted (Abort name) c t same bound = unless_binds (Abort name) (progress_refusal c.service) (succeeds_with (abort_by_command c t)) (aborted_keeps (tell c t AbortLine) t ∙ bound)
  acted (Retry name) c t same bound =
      unless_binds (Retry name) (retry_refusal known c) (succeeds_with (retry known c t)) ((enter_keeps (tell (begun known c c.service.version) t (Retried c.service.version)) 0 t).3 ∙ ap (bound_of known) same)
  acted (Tick name) c t same bound = bound
  acted (Report report) c t same bound =
      let o : Option OpenRun = open_run_now c report.run in
      unless_binds (Report report) (report_refusal c t report.run report.entries o) (reports_if c o report.entries t) (reports_keep c o report.entries t ∙ bound)
  acted (AddService spec) c t same bound = tt
  acted (AddTemplate spec) c t same bound = tt

  passed_after : (command : Command) (r : Result ModelResult Refusal) (t : ℕ) → BindsIf command r → BindsIf command (passed_on r t)
  passed_after command (Ok a) t e = (passed_keeps a.evolution t).1 ∙ e
  passed_after command (Err refusal) t e = tt

  acted_passed : (command : Command) (c : Evolution) (now : ℕ) → c.service.strategy ≡ m.service.strategy → c.service.bound ≡ m.service.bound → BindsIf command (act_passed known command c now)
  acted_passed command c now same bound =
      let t = judged_at c.service now in
      let h = passed_keeps c now in
      passed_after command (act known command (pass c now) t) t (acted command (pass c now) t (h.0 ∙ same) (h.1 ∙ bound))

  pub binds : (command : Command) (c : Evolution) (now : ℕ) (a : ModelResult) → c.service.strategy ≡ m.service.strategy → c.service.bound ≡ m.service.bound → act_passed known command c now ≡ Ok a → a.evolution.service.bound ≡ bound_after known command (Some m) m.service.strategy
  binds command c now a same bound e = subst (BindsIf command) e (acted_passed command c now same bound)
