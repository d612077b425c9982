-- An evolution with one effect more before its own: every rule leads it where it leads the evolution, and says the same.
use Rattle.std.proofs.Common.{◌≡◌, ℕ, zero, suc, ◌+◌, ◌-◌, List, [], ◌∷◌, refl, ap, sym, ◌∙◌, subst}
use Rattle.std.specs.Prelude.{true, false, if◌then◌else◌, Option, Some, None, Result, Ok, Err, ◌==◌, length, map, find, slice_get}
use Rattle.canary_condition.specs.declared.outcome.Phase.{Phase}
use Rattle.canary_condition.specs.declared.outcome.Phase.TheVariants.{Pending, Running, Successful, Inconclusive, Error, Failed}
use Rattle.canary_metric.specs.MetricPhases.{is_completed}
use Rattle.canary_plan.specs.Plans.{Templates}
use Rattle.canary_plan.specs.declared.step.Step.{Step}
use Rattle.canary_plan.specs.declared.step.Step.TheVariants.{SetWeight, Pause, Analysis}
use Rattle.canary_plan.specs.declared.report.Entry.{Entry}
use Rattle.canary_plan.specs.declared.command.Command.{Command}
use Rattle.canary_plan.specs.declared.command.Command.TheVariants.{Template, Service, Start, Promote, PromoteFull, Abort, Retry, Tick, Report}
use Rattle.canary_plan.specs.declared.line.LineEvent.TheVariants.{Started, Retried, Promoted, PromotedFull, Completed, AbortedBy, BackgroundHeld, Finished, Aborted as AbortLine}
use Rattle.canary_plan.specs.declared.refusal.Refusal.{Refusal}
use Rattle.canary_release.specs.declared.effect.Recorded.{Recorded}
use Rattle.canary_release.specs.declared.effect.Effect.{Effect}
use Rattle.canary_release.specs.declared.effect.Effect.TheVariants.{MeasurementRecorded}
use Rattle.canary_release.specs.declared.reply.Reported.{Reported}
use Rattle.canary_release.specs.declared.runs.OpenRun.{OpenRun}
use Rattle.canary_release.specs.declared.runs.Runs.{Runs}
use Rattle.canary_release.specs.declared.state.ServiceState.{ServiceState}
use Rattle.canary_release.specs.declared.state.ReleaseState.TheVariants.{Aborted}
use Rattle.canary_release.specs.Evolutions.{Evolution, RunView, with_service_state, apply_effect, tell, runs_now, has_number, open_run_now, run_verdict, close_run, end_run, end_runs, end_open_runs}
use Rattle.canary_release.specs.Rules.Entering.{begins_background, begin_background, open_background, done, finish, show_step, enter, abort, without_holds}
use Rattle.canary_release.specs.Rules.Passing.{next_move, is_by, move_at, chain_end, with_last, pass, judged_at}
use Rattle.canary_release.specs.Rules.Reports.{brought, record_all, report_refusal, consequence, complete, assess_run, assess, report_on, verdict_if, reported_on}
use Rattle.canary_release.specs.Replies.{report_text}
use Rattle.canary_release.specs.Rules.Commands.{ModelResult, unless, succeeds_with, begun, started_at, start, promoted_to, retry, promote, promote_full, abort_by_command, start_refusal, retry_refusal, promote_refusal, progress_refusal, reports_if, act}
use Rattle.canary_release.specs.Desks.{passed_on, act_passed}
use Rattle.canary_release.proofs.Watches.{background, recorded, moved, passed, acted, KeepsIf}

-- with that effect before its own, and a view of runs that sees it
abbrev pub behind : RunView → Effect → Evolution → Evolution
behind w x c = record { service = c.service; effects = x ∷ c.effects; watch = w }

-- a view of runs after one effect
abbrev pub once_seen : RunView → Effect → RunView
once_seen w x xs = w (x ∷ xs)

-- what the evolution tracks is what the view of runs shows after the effect
abbrev pub Follows : RunView → Effect → Evolution → Type 0
Follows w x c = c.watch ≡ once_seen w x

-- a statement on evolutions is shown on those whose view of runs is the one after the effect
by_watch : (w : RunView) (x : Effect) (P : Evolution → Type 0) → ((s : ServiceState) (xs : List Effect) → P (record { service = s; effects = xs; watch = once_seen w x })) → (c : Evolution) → Follows w x c → P c
by_watch w x P h c p = subst (λ (v : RunView). P (record { service = c.service; effects = c.effects; watch = v })) (sym p) (h c.service c.effects)

runs_behind : (w : RunView) (x : Effect) (c : Evolution) → Follows w x c → runs_now (behind w x c) ≡ runs_now c
runs_behind w x c p = ap (λ (v : RunView). v c.effects) (sym p)

ended_behind : (w : RunView) (x : Effect) (at : ℕ) (c : Evolution) (rs : List OpenRun) → end_runs at (behind w x c) rs ≡ behind w x (end_runs at c rs)
ended_behind w x at c [] = refl
ended_behind w x at c (r ∷ rs) = ended_behind w x at (end_run at c r) rs

ended_open_behind : (w : RunView) (x : Effect) (c : Evolution) (at : ℕ) → Follows w x c → end_open_runs (behind w x c) at ≡ behind w x (end_open_runs c at)
ended_open_behind w x c at p = ap (λ (r : Runs). end_runs at (behind w x c) r.open_runs) (runs_behind w x c p) ∙ ended_behind w x at c (runs_now c).open_runs

finish_behind : (w : RunView) (x : Effect) (c : Evolution) (at : ℕ) → Follows w x c → finish (behind w x c) at ≡ behind w x (finish c at)
finish_behind w x c at p = ap (λ (d : Evolution). tell (with_service_state d (done d.service)) at (Finished d.service.version)) (ended_open_behind w x c at p)

background_behind : (w : RunView) (x : Effect) (c : Evolution) (i at : ℕ) → Follows w x c → open_background (behind w x c) i at ≡ behind w x (open_background c i at)
background_behind w x c i at p =
    elim (begins_background c.service.strategy.background i c.service.background)
    as (λ b. (let d : Evolution = (if b then begin_background (behind w x c) at else behind w x c) in d) ≡ behind w x (if b then begin_background c at else c))
    [ true ↦ by_watch w x (λ d. begin_background (behind w x d) at ≡ behind w x (begin_background d at)) (λ s xs. refl) c p | false ↦ refl ]

show_behind : (w : RunView) (x : Effect) (c : Evolution) (s : Option Step) (i at : ℕ) → Follows w x c → show_step (behind w x c) s i at ≡ behind w x (show_step c s i at)
show_behind w x c (Some (SetWeight percent)) i at p = refl
show_behind w x c (Some (Pause None)) i at p = refl
show_behind w x c (Some (Pause (Some seconds))) i at p = refl
show_behind w x c (Some (Analysis names)) i at p = by_watch w x (λ d. show_step (behind w x d) (Some (Analysis names)) i at ≡ behind w x (show_step d (Some (Analysis names)) i at)) (λ s xs. refl) c p
show_behind w x c None i at p = refl

enter_behind : (w : RunView) (x : Effect) (c : Evolution) (i at : ℕ) → Follows w x c → enter (behind w x c) i at ≡ behind w x (enter c i at)
enter_behind w x c i at p =
    let there : Evolution = with_service_state c (record c.service { step = i; entered = at }) in
    let step : Option Step = slice_get c.service.strategy.steps i in
    elim (i == length c.service.strategy.steps)
    as (λ b. (let d : Evolution = (if b then finish (behind w x there) at else show_step (open_background (behind w x there) i at) step i at) in d) ≡ behind w x (if b then finish there at else show_step (open_background there i at) step i at))
    [ true ↦ finish_behind w x there at p | false ↦ ap (λ (d : Evolution). show_step d step i at) (background_behind w x there i at p) ∙ show_behind w x (open_background there i at) step i at (background there i at ∙ p) ]

move_behind : (w : RunView) (x : Effect) (c : Evolution) (o : Option ℕ) → Follows w x c → move_at (behind w x c) o ≡ behind w x (move_at c o)
move_behind w x c None p = refl
move_behind w x c (Some e) p = enter_behind w x c (c.service.step + 1) e p

chain_behind : (w : RunView) (x : Effect) (n t : ℕ) (c : Evolution) → Follows w x c → chain_end n t (behind w x c) ≡ behind w x (chain_end n t c)
chain_behind w x zero t c p = refl
chain_behind w x (suc n) t c p =
    let move : Option ℕ = next_move c.service in
    elim (is_by t move)
    as (λ b. elim b [ true ↦ chain_end n t (move_at (behind w x c) move) | false ↦ behind w x c ] ≡ behind w x (elim b [ true ↦ chain_end n t (move_at c move) | false ↦ c ]))
    [ true ↦ ap (chain_end n t) (move_behind w x c move p) ∙ chain_behind w x n t (move_at c move) (moved c move ∙ p) | false ↦ refl ]

pub pass_behind : (w : RunView) (x : Effect) (c : Evolution) (t : ℕ) → Follows w x c → pass (behind w x c) t ≡ behind w x (pass c t)
pass_behind w x c t p = ap (λ (d : Evolution). with_last d (judged_at c.service t)) (chain_behind w x (length c.service.strategy.steps - c.service.step) (judged_at c.service t) c p)

abort_behind : (w : RunView) (x : Effect) (c : Evolution) (at : ℕ) → Follows w x c → abort (behind w x c) at ≡ behind w x (abort c at)
abort_behind w x c at p = ended_open_behind w x (with_service_state c (record (without_holds c.service) { state = Aborted })) at p

-- Reports.

record_behind : (w : RunView) (x : Effect) (c : Evolution) (rs : List Recorded) → record_all (behind w x c) rs ≡ behind w x (record_all c rs)
record_behind w x c [] = refl
record_behind w x c (r ∷ rs) = record_behind w x (apply_effect c (MeasurementRecorded r)) rs

consequence_behind : (w : RunView) (x : Effect) (c : Evolution) (run : ℕ) (step : Option ℕ) (v : Phase) (t : ℕ) → Follows w x c → consequence (behind w x c) run step v t ≡ behind w x (consequence c run step v t)
consequence_behind w x c run step Failed t p = abort_behind w x (tell c t (AbortedBy run)) t p
consequence_behind w x c run step Error t p = abort_behind w x (tell c t (AbortedBy run)) t p
consequence_behind w x c run (Some i) Inconclusive t p = refl
consequence_behind w x c run None Inconclusive t p = ended_open_behind w x (tell (with_service_state c (record c.service { background_hold = true })) t BackgroundHeld) t p
consequence_behind w x c run (Some i) Successful t p = enter_behind w x c (c.service.step + 1) t p
consequence_behind w x c run None Successful t p = refl
consequence_behind w x c run step Pending t p = refl
consequence_behind w x c run step Running t p = refl

assess_run_behind : (w : RunView) (x : Effect) (c : Evolution) (r : OpenRun) (t : ℕ) → Follows w x c → assess_run (behind w x c) r t ≡ behind w x (assess_run c r t)
assess_run_behind w x c r t p =
    let v = run_verdict false r in
    elim (is_completed v)
    as (λ b. (let d : Evolution = (if b then complete (behind w x c) r v t else behind w x c) in d) ≡ behind w x (if b then complete c r v t else c))
    [ true ↦ consequence_behind w x (tell (close_run c r t false) t (Completed r.number v)) r.number r.step v t p | false ↦ refl ]

assess_behind : (w : RunView) (x : Effect) (c : Evolution) (r : Option OpenRun) (t : ℕ) → Follows w x c → assess (behind w x c) r t ≡ behind w x (assess c r t)
assess_behind w x c None t p = refl
assess_behind w x c (Some r) t p = assess_run_behind w x c r t p

report_behind : (w : RunView) (x : Effect) (c : Evolution) (r : OpenRun) (es : List Entry) (t : ℕ) → Follows w x c → report_on (behind w x c) r es t ≡ behind w x (report_on c r es t)
report_behind w x c r es t p =
    let xs = brought r.analysis.metrics r es in
    let all : Evolution = record_all c xs in
    let q : Follows w x all = recorded c xs ∙ p in
    ap (λ (d : Evolution). assess d (open_run_now d r.number) t) (record_behind w x c xs)
    ∙ ap (λ (k : Runs). assess (behind w x all) (find (has_number r.number) k.open_runs) t) (runs_behind w x all q)
    ∙ assess_behind w x all (open_run_now all r.number) t q

reported_behind : (w : RunView) (x : Effect) (c : Evolution) (r : OpenRun) (es : List Entry) → Follows w x c → reported_on (behind w x c) r es ≡ reported_on c r es
reported_behind w x c r es p =
    let xs = brought r.analysis.metrics r es in
    let all : Evolution = record_all c xs in
    let q : Follows w x all = recorded c xs ∙ p in
    ap (λ (d : Evolution). (let told : Reported = record { phases = map (λ (y : Recorded). y.phase) xs; run = r.number; verdict = verdict_if d (open_run_now d r.number) } in told)) (record_behind w x c xs)
    ∙ ap (λ (k : Runs). (let told : Reported = record { phases = map (λ (y : Recorded). y.phase) xs; run = r.number; verdict = verdict_if (behind w x all) (find (has_number r.number) k.open_runs) } in told)) (runs_behind w x all q)

-- Commands.

abbrev pub acted_behind : RunView → Effect → ModelResult → ModelResult
acted_behind w x a = record a { evolution = behind w x a.evolution }

abbrev pub result_behind : RunView → Effect → Result ModelResult Refusal → Result ModelResult Refusal
result_behind w x (Ok a) = Ok (acted_behind w x a)
result_behind w x (Err refusal) = Err refusal

unless_behind : (w : RunView) (x : Effect) (r s : Option Refusal) (a d : ModelResult) → r ≡ s → a ≡ acted_behind w x d → unless r a ≡ result_behind w x (unless s d)
unless_behind w x r s a d e h = (λ i. unless (e i) (h i)) ∙ elim s as (λ o. unless o (acted_behind w x d) ≡ result_behind w x (unless o d)) [ None ↦ refl | Some refusal ↦ refl ]

reports_behind : (w : RunView) (x : Effect) (c : Evolution) (r : Option OpenRun) (es : List Entry) (t : ℕ) → Follows w x c → reports_if (behind w x c) r es t ≡ acted_behind w x (reports_if c r es t)
reports_behind w x c None es t p = refl
reports_behind w x c (Some r) es t p = λ i. record { evolution = report_behind w x c r es t p i; shows = report_text (reported_behind w x c r es p i) }

command_result : (w : RunView) (x : Effect) (c d : Evolution) → c ≡ behind w x d → succeeds_with c ≡ acted_behind w x (succeeds_with d)
command_result w x c d e = ap succeeds_with e

act_behind : (known : Templates) (w : RunView) (x : Effect) (command : Command) (c : Evolution) (t : ℕ) → Follows w x c → act known command (behind w x c) t ≡ result_behind w x (act known command c t)
act_behind known w x (Start name version) c t p =
    unless_behind w x (start_refusal known (behind w x c) version) (start_refusal known c version) (succeeds_with (start known (behind w x c) t version)) (succeeds_with (start known c t version))
    (by_watch w x (λ d. start_refusal known (behind w x d) version ≡ start_refusal known d version) (λ s xs. refl) c p)
    (command_result w x (start known (behind w x c) t version) (start known c t version) (enter_behind w x (tell (begun known c version) t (Started version)) (started_at c.service version) t p))
act_behind known w x (Promote name) c t p =
    unless_behind w x (promote_refusal c.service) (promote_refusal c.service) (succeeds_with (promote (behind w x c) t)) (succeeds_with (promote c t)) refl
    (command_result w x (promote (behind w x c) t) (promote c t) (enter_behind w x (tell (with_service_state c (without_holds c.service)) t Promoted) (promoted_to c.service) t p))
act_behind known w x (PromoteFull name) c t p =
    unless_behind w x (progress_refusal c.service) (progress_refusal c.service) (succeeds_with (promote_full (behind w x c) t)) (succeeds_with (promote_full c t)) refl
    (command_result w x (promote_full (behind w x c) t) (promote_full c t) (enter_behind w x (tell c t PromotedFull) (length c.service.strategy.steps) t p))
act_behind known w x (Abort name) c t p =
    unless_behind w x (progress_refusal c.service) (progress_refusal c.service) (succeeds_with (abort_by_command (behind w x c) t)) (succeeds_with (abort_by_command c t)) refl
    (command_result w x (abort_by_command (behind w x c) t) (abort_by_command c t) (abort_behind w x (tell c t AbortLine) t p))
act_behind known w x (Retry name) c t p =
    unless_behind w x (retry_refusal known (behind w x c)) (retry_refusal known c) (succeeds_with (retry known (behind w x c) t)) (succeeds_with (retry known c t))
    (by_watch w x (λ d. retry_refusal known (behind w x d) ≡ retry_refusal known d) (λ s xs. refl) c p)
    (command_result w x (retry known (behind w x c) t) (retry known c t) (enter_behind w x (tell (begun known c c.service.version) t (Retried c.service.version)) 0 t p))
act_behind known w x (Tick name) c t p = refl
act_behind known w x (Report report) c t p =
    let found : open_run_now (behind w x c) report.run ≡ open_run_now c report.run = ap (λ (k : Runs). find (has_number report.run) k.open_runs) (runs_behind w x c p) in
    let refused : report_refusal (behind w x c) t report.run report.entries (open_run_now c report.run) ≡ report_refusal c t report.run report.entries (open_run_now c report.run) =
    by_watch w x (λ d. report_refusal (behind w x d) t report.run report.entries (open_run_now c report.run) ≡ report_refusal d t report.run report.entries (open_run_now c report.run)) (λ s xs. refl) c p in
    unless_behind w x (report_refusal (behind w x c) t report.run report.entries (open_run_now (behind w x c) report.run)) (report_refusal c t report.run report.entries (open_run_now c report.run))
    (reports_if (behind w x c) (open_run_now (behind w x c) report.run) report.entries t) (reports_if c (open_run_now c report.run) report.entries t)
    (ap (report_refusal (behind w x c) t report.run report.entries) found ∙ refused)
    (ap (λ o. reports_if (behind w x c) o report.entries t) found ∙ reports_behind w x c (open_run_now c report.run) report.entries t p)
act_behind known w x (Service spec) c t p = refl
act_behind known w x (Template spec) c t p = refl

passed_on_behind : (w : RunView) (x : Effect) (c : Evolution) (r : Result ModelResult Refusal) (t : ℕ) → Follows w x c → KeepsIf c r → passed_on (result_behind w x r) t ≡ result_behind w x (passed_on r t)
passed_on_behind w x c (Ok a) t p k = λ i. Ok (record a { evolution = pass_behind w x a.evolution t (k ∙ p) i })
passed_on_behind w x c (Err refusal) t p k = refl

pub act_passed_behind : (known : Templates) (w : RunView) (x : Effect) (command : Command) (c : Evolution) (now : ℕ) → Follows w x c → act_passed known command (behind w x c) now ≡ result_behind w x (act_passed known command c now)
act_passed_behind known w x command c now p =
    let t = judged_at c.service now in
    let q : Follows w x (pass c now) = passed c now ∙ p in
    ap (λ (d : Evolution). passed_on (act known command d t) t) (pass_behind w x c now p)
    ∙ ap (λ (r : Result ModelResult Refusal). passed_on r t) (act_behind known w x command (pass c now) t q)
    ∙ passed_on_behind w x (pass c now) (act known command (pass c now) t) t q (acted known command (pass c now) t)
