-- As time passes, no measurement is recorded.
use Rattle.std.proofs.Common.{ℕ, zero, suc, List, [], ◌∷◌, length, true, false}
use Rattle.std.specs.Prelude.{◌==◌, ◌-◌, ◌+◌, if◌then◌else◌, Option, Some, None, slice_get}
use Rattle.std.specs.List.{AllByRecursion}
use Rattle.canary_plan.specs.Plans.{analysis_or_none}
use Rattle.canary_plan.specs.declared.step.Step.{Step}
use Rattle.canary_plan.specs.declared.step.Step.TheVariants.{SetWeight, Pause, Analysis}
use Rattle.canary_plan.specs.declared.line.LineEvent.{LineEvent}
use Rattle.canary_plan.specs.declared.line.LineEvent.TheVariants.{BackgroundOpened, WeightEntered, PauseEntered, TimedPauseEntered, AnalysisEntered, Finished, Ended}
use Rattle.canary_plan.specs.Plans.{analysis_or_none}
use Rattle.canary_release.specs.declared.effect.Effect.{Effect}
use Rattle.canary_release.specs.declared.effect.Effect.TheVariants.{LineAdded, RunOpened, RunClosed}
use Rattle.canary_release.specs.declared.runs.OpenRun.{OpenRun}
use Rattle.canary_release.specs.Evolutions.{Evolution, with_service_state, apply_effect, tell, runs_now, run_verdict, next_run, open_run, close_run, end_run, end_runs, end_open_runs}
use Rattle.canary_release.specs.Rules.Entering.{begins_background, begin_background, open_background, done, finish, show_step, enter}
use Rattle.canary_release.specs.Rules.Passing.{next_move, is_by, move_at, chain_end, judged_at}
use Rattle.canary_release.specs.Desks.{model_evolution}
use Rattle.canary_release.specs.Effects.{IsQuiet, TimeMeasuresNothing}
use Rattle.canary_release.proofs.OrderingBasics.{each_and_more}

-- no measurement was recorded so far
abbrev AreQuiet : Evolution → Type 0
AreQuiet c = AllByRecursion IsQuiet c.effects

-- one more effect that is no measurement
happened : (c : Evolution) (x : Effect) → AreQuiet c → IsQuiet x → AreQuiet (apply_effect c x)
happened c x q h = each_and_more IsQuiet c.effects x q h

told : (c : Evolution) (at : ℕ) (event : LineEvent) → AreQuiet c → AreQuiet (tell c at event)
told c at event q = happened c (LineAdded (record { moment = at; event = event })) q tt

opened : (c : Evolution) (step : Option ℕ) (at : ℕ) → AreQuiet c → AreQuiet (open_run c step at)
opened c step at q = happened c (RunOpened (record { run = next_run c; step = step; analysis = analysis_or_none c.service.bound step; started = at })) q tt

closed : (c : Evolution) (r : OpenRun) (at : ℕ) → AreQuiet c → AreQuiet (close_run c r at true)
closed c r at q = happened c (RunClosed (record { run = r.number; at = at; outside = true; verdict = run_verdict true r }) r.tallies) q tt

ended : (at : ℕ) (c : Evolution) (rs : List OpenRun) → AreQuiet c → AreQuiet (end_runs at c rs)
ended at c [] q = q
ended at c (r ∷ rs) q = ended at (end_run at c r) rs (told (close_run c r at true) at (Ended r.number (run_verdict true r)) (closed c r at q))

finished : (c : Evolution) (at : ℕ) → AreQuiet c → AreQuiet (finish c at)
finished c at q =
    let d : Evolution = end_open_runs c at in
    told (with_service_state d (done d.service)) at (Finished d.service.version) (ended at c (runs_now c).open_runs q)

background_opened : (c : Evolution) (i at : ℕ) → AreQuiet c → AreQuiet (open_background c i at)
background_opened c i at q =
    let d : Evolution = with_service_state c (record c.service { background = true }) in
    elim (begins_background c.service.strategy.background i c.service.background)
    as (λ b. AreQuiet (if b then begin_background c at else c))
    [ true ↦ told (open_run d None at) at (BackgroundOpened (next_run c)) (opened d None at q) | false ↦ q ]

shown : (c : Evolution) (o : Option Step) (i at : ℕ) → AreQuiet c → AreQuiet (show_step c o i at)
shown c (Some (SetWeight percent)) i at q = told c at (WeightEntered i percent) q
shown c (Some (Pause None)) i at q = told c at (PauseEntered i) q
shown c (Some (Pause (Some seconds))) i at q = told c at (TimedPauseEntered i seconds) q
shown c (Some (Analysis names)) i at q = told (open_run c (Some i) at) at (AnalysisEntered i (next_run c)) (opened c (Some i) at q)
shown c None i at q = q

entered : (c : Evolution) (i at : ℕ) → AreQuiet c → AreQuiet (enter c i at)
entered c i at q =
    let there : Evolution = with_service_state c (record c.service { step = i; entered = at }) in
    elim (i == length c.service.strategy.steps)
    as (λ b. AreQuiet (if b then finish there at else show_step (open_background there i at) (slice_get c.service.strategy.steps i) i at))
    [ true ↦ finished there at q | false ↦ shown (open_background there i at) (slice_get c.service.strategy.steps i) i at (background_opened there i at q) ]

moved : (c : Evolution) (o : Option ℕ) → AreQuiet c → AreQuiet (move_at c o)
moved c None q = q
moved c (Some e) q = entered c (c.service.step + 1) e q

chained : (n t : ℕ) (c : Evolution) → AreQuiet c → AreQuiet (chain_end n t c)
chained zero t c q = q
chained (suc n) t c q =
    let move : Option ℕ = next_move c.service in
    elim (is_by t move)
    as (λ b. AreQuiet (elim b [ true ↦ chain_end n t (move_at c move) | false ↦ c ]))
    [ true ↦ chained n t (move_at c move) (moved c move q) | false ↦ q ]

pub time_measures_nothing : TimeMeasuresNothing
time_measures_nothing m t =
    let c : Evolution = model_evolution m in
    chained (length c.service.strategy.steps - c.service.step) (judged_at c.service t) c tt
