-- A step that is entered, a release that is finished and one that is aborted leave parts unbroken, but for time.
use Rattle.std.proofs.Common.{◌≡◌, ℕ, ◌-◌, ◌≤◌, ◌<◌, [], length, refl, ap, sym, ◌∙◌, arith, subst}
use Rattle.std.specs.Prelude.{◌≢◌, true, false, ◌&&◌, ◌==◌, if◌then◌else◌, slice_get, is_none, Option, Some, None}
use Rattle.std.proofs.lemmas.Bool.Decides.{nat_tests}
use Rattle.canary_plan.specs.declared.step.Step.{Step}
use Rattle.canary_plan.specs.declared.step.Step.TheVariants.{SetWeight, Pause, Analysis}
use Rattle.canary_plan.specs.declared.line.LineEvent.{LineEvent}
use Rattle.canary_plan.specs.declared.line.LineEvent.TheVariants.{BackgroundOpened, WeightEntered, PauseEntered, TimedPauseEntered, AnalysisEntered, Finished}
use Rattle.canary_plan.specs.declared.strategy.CheckedStrategy.{CheckedStrategy}
use Rattle.canary_plan.specs.Plans.{analysis_or_none}
use Rattle.canary_release.specs.declared.effect.Effect.TheVariants.{RunOpened}
use Rattle.canary_release.specs.Parts.{is_refused, is_bound, is_unbound}
use Rattle.canary_release.specs.declared.state.ReleaseState.TheVariants.{Aborted}
use Rattle.canary_release.specs.declared.state.ServiceState.{ServiceState}
use Rattle.canary_release.specs.declared.runs.Runs.{Runs}
use Rattle.canary_release.specs.Evolutions.{Evolution, with_service_state, tell, runs_now, next_run, open_run, end_open_runs}
use Rattle.canary_release.specs.Rules.Entering.{without_holds, done, finish, begins_background, begin_background, open_background, show_step, enter, abort}
use Rattle.canary_release.proofs.Keeping.{ended_service_state}
use Rattle.canary_release.proofs.PartsRuns.{Steady, with_open, ended_watch, told_runs, happened_runs, none_open}
use Rattle.canary_release.proofs.PartsKept.{IsWellBound, Unjudged, Fit}
use Rattle.canary_release.proofs.PartsFresh.{Basis, basis, Accepted, step_analysis}
use Rattle.canary_release.proofs.PartsReady.{Ready, with_new, begins, ready_begun, placed_below, placed_end, not_misbound, settled, settled_open}

-- an evolution of this strategy, bound so, that is unbroken, but for time: its step was entered by t
pub record Loose (s : Basis) (t : ℕ) (c : Evolution) : Type 0 where
  pub steady : Steady c.watch
  pub same : basis c.service ≡ s
  pub entered : c.service.entered ≤ t
  pub fit : Fit c.service (runs_now c)
  pub unjudged : Unjudged (runs_now c)

-- from how it stands and what is tracked
pub loose_as : (t : ℕ) (c : Evolution) (s : ServiceState) (w : Runs) → Steady c.watch → c.service ≡ s → runs_now c ≡ w → s.entered ≤ t → Fit s w → Unjudged w → Loose (basis s) t c
loose_as t c s w steady service runs entered fit unjudged =
    record {
      steady = steady;
      same = ap basis service;
      entered = subst (λ (x : ServiceState). x.entered ≤ t) (sym service) entered;
      fit = subst (λ (x : ServiceState). Fit x (runs_now c)) (sym service) (subst (λ (v : Runs). Fit s v) (sym runs) fit);
      unjudged = subst Unjudged (sym runs) unjudged;
    }

-- a release that is done, or aborted

done_fits : (s : ServiceState) (w : Runs) → s.step ≡ length s.strategy.steps → w.count ≤ 1000000 → (s.background && is_none s.strategy.background) ≡ false → IsWellBound s → Fit (done s) (with_open w [])
done_fits s w at_end few known bound =
    record {
      placed = placed_end (length s.strategy.steps) s.step true at_end refl;
      few = few;
      room = λ g. cc g;
      numbered = refl;
      distinct = refl;
      tallied = refl;
      idle = λ g. refl;
      one_background = omega arith;
      one_step = omega arith;
      home = refl;
      background_run = refl;
      held = refl;
      known = known;
      hold = refl;
      bound = not_misbound (is_bound s) (is_unbound s) (is_refused s.bound) bound;
      same = refl;
    }

abbrev pub aborted : ServiceState → ServiceState
aborted s = record (without_holds s) { state = Aborted }

aborted_fits : (s : ServiceState) (w : Runs) → s.step < length s.strategy.steps → w.count ≤ 1000000 → (s.background && is_none s.strategy.background) ≡ false → IsWellBound s → Fit (aborted s) (with_open w [])
aborted_fits s w below few known bound =
    record {
      placed = placed_below (length s.strategy.steps) s.step false below refl;
      few = few;
      room = λ g. cc g;
      numbered = refl;
      distinct = refl;
      tallied = refl;
      idle = λ g. refl;
      one_background = omega arith;
      one_step = omega arith;
      home = refl;
      background_run = refl;
      held = refl;
      known = known;
      hold = refl;
      bound = not_misbound (is_bound s) false (is_refused s.bound) bound;
      same = refl;
    }

ended_steady : (c : Evolution) (at : ℕ) → Steady c.watch → Steady (end_open_runs c at).watch
ended_steady c at steady = subst Steady (sym (ended_watch at c (runs_now c).open_runs)) steady

pub finished : (c : Evolution) (at : ℕ) → Steady c.watch → c.service.step ≡ length c.service.strategy.steps → (runs_now c).count ≤ 1000000 → (c.service.background && is_none c.service.strategy.background) ≡ false → IsWellBound c.service → c.service.entered ≤ at → Loose (basis c.service) at (finish c at)
finished c at steady at_end few known bound entered =
    let ended : Evolution = end_open_runs c at in
    let as_it_was : ended.service ≡ c.service = ended_service_state at c (runs_now c).open_runs in
    let so : Steady ended.watch = ended_steady c at steady in
    let runs = told_runs (with_service_state ended (done ended.service)) at (Finished ended.service.version) so ∙ none_open c at steady in
    loose_as at (finish c at) (done c.service) (with_open (runs_now c) []) so (ap done as_it_was) runs entered (done_fits c.service (runs_now c) at_end few known bound) refl

pub aborts : (c : Evolution) (at : ℕ) → Steady c.watch → c.service.step < length c.service.strategy.steps → (runs_now c).count ≤ 1000000 → (c.service.background && is_none c.service.strategy.background) ≡ false → IsWellBound c.service → c.service.entered ≤ at → Loose (basis c.service) at (abort c at)
aborts c at steady below few known bound entered =
    let d : Evolution = with_service_state c (aborted c.service) in
    loose_as at (abort c at) (aborted c.service) (with_open (runs_now c) []) (ended_steady d at steady) (ended_service_state at d (runs_now d).open_runs) (none_open d at steady) entered (aborted_fits c.service (runs_now c) below few known bound) refl

-- a step that is entered

opened_runs : (c : Evolution) (step : Option ℕ) (at : ℕ) (event : LineEvent) → Steady c.watch → runs_now (tell (open_run c step at) at event) ≡ with_new c.service.bound (runs_now c) step at
opened_runs c step at event steady =
    told_runs (open_run c step at) at event steady
    ∙ happened_runs c (RunOpened (record { run = next_run c; step = step; analysis = analysis_or_none c.service.bound step; started = at })) steady

told : (c : Evolution) (at : ℕ) (event : LineEvent) → Steady c.watch → c.service.entered ≤ at → c.service.step < length c.service.strategy.steps → Ready c.service (runs_now c) (length c.service.strategy.steps - c.service.step) → Loose (basis c.service) at (tell c at event)
told c at event steady entered below ready =
    loose_as at (tell c at event) c.service (runs_now c) steady refl (told_runs c at event steady) entered (settled c.service (runs_now c) below ready) ready.runs.unjudged

shown : (c : Evolution) (o : Option Step) (at : ℕ) → slice_get c.service.strategy.steps c.service.step ≡ o → Accepted (basis c.service) → Steady c.watch → c.service.entered ≤ at → c.service.step < length c.service.strategy.steps → Ready c.service (runs_now c) (length c.service.strategy.steps - c.service.step) → Loose (basis c.service) at (show_step c o c.service.step at)
shown c (Some (SetWeight percent)) at e acc steady entered below ready = told c at (WeightEntered c.service.step percent) steady entered below ready
shown c (Some (Pause None)) at e acc steady entered below ready = told c at (PauseEntered c.service.step) steady entered below ready
shown c (Some (Pause (Some seconds))) at e acc steady entered below ready = told c at (TimedPauseEntered c.service.step seconds) steady entered below ready
shown c (Some (Analysis names)) at e acc steady entered below ready =
    let fits = settled_open c.service (runs_now c) at below (step_analysis c.service c.service.step names acc ready.bound.0 e) ready in
    loose_as at (tell (open_run c (Some c.service.step) at) at (AnalysisEntered c.service.step (next_run c))) c.service (with_new c.service.bound (runs_now c) (Some c.service.step) at)
    steady refl (opened_runs c (Some c.service.step) at (AnalysisEntered c.service.step (next_run c)) steady) entered fits.0 fits.1
shown c None at e acc steady entered below ready =
    loose_as at c c.service (runs_now c) steady refl refl entered (settled c.service (runs_now c) below ready) ready.runs.unjudged

abbrev stepped : ServiceState → ℕ → ℕ → ServiceState
stepped s i at = record s { step = i; entered = at }

ready_there : (s : ServiceState) (w : Runs) (need i at : ℕ) → Ready s w need → Ready (stepped s i at) w need
ready_there s w need i at r =
    record {
      going = r.going;
      unheld = r.unheld;
      background_unheld = r.background_unheld;
      few = r.few;
      room = r.room;
      runs = r.runs;
      one_background = r.one_background;
      no_step = r.no_step;
      background_run = r.background_run;
      known = r.known;
      bound = r.bound;
    }

below_end : (i n : ℕ) → i ≤ n → (i == n) ≡ false → i < n
below_end i n h e = grind (arith, nat_tests)

at_the_end : (i n : ℕ) → (i == n) ≡ true → i ≡ n
at_the_end i n e = grind (arith, nat_tests)

not_itself : (n : ℕ) → (n == n) ≡ false → ⊥
not_itself n e = let other : n ≢ n = grind (arith, nat_tests) in other refl

pub enters : (c : Evolution) (i at : ℕ) → Accepted (basis c.service) → Steady c.watch → i ≤ length c.service.strategy.steps → Ready c.service (runs_now c) (length c.service.strategy.steps - i) → Loose (basis c.service) at (enter c i at)
enters c i at acc steady le ready =
    let s : CheckedStrategy = c.service.strategy in
    let k : Basis = basis c.service in
    let there : Evolution = with_service_state c (stepped c.service i at) in
    let o : Option Step = slice_get s.steps i in
    let r = ready_there c.service (runs_now c) (length s.steps - i) i at ready in
    elim (i == length s.steps)
    as (λ b. (i == length s.steps) ≡ b → Loose k at (let d : Evolution = (if b then finish there at else show_step (open_background there i at) o i at) in d)) [
      | true ↦ λ e. finished there at steady (at_the_end i (length s.steps) e) r.few r.known r.bound (omega arith)
      | false ↦ λ e.
          let below : i < length s.steps = below_end i (length s.steps) le e in
          elim (begins_background s.background i c.service.background)
          as (λ b. begins_background s.background i c.service.background ≡ b → Loose k at (show_step (let d : Evolution = (if b then begin_background there at else there) in d) o i at)) [
            | true ↦ λ f.
                let begun : Evolution = begin_background there at in
                let runs : runs_now begun ≡ with_new c.service.bound (runs_now c) None at = opened_runs (with_service_state there (record there.service { background = true })) None at (BackgroundOpened (next_run there)) steady in
                let more = ready_begun there.service (runs_now c) (length s.steps - i) at acc (begins s.background i c.service.background f) r in
                shown begun o at refl acc steady (omega arith) below (subst (λ (w : Runs). Ready begun.service w (length s.steps - i)) (sym runs) more)
            | false ↦ λ f. shown there o at refl acc steady (omega arith) below r
          ] refl
    ] refl

-- the end is entered
pub enters_end : (c : Evolution) (at : ℕ) → Steady c.watch → (runs_now c).count ≤ 1000000 → (c.service.background && is_none c.service.strategy.background) ≡ false → IsWellBound c.service → Loose (basis c.service) at (enter c (length c.service.strategy.steps) at)
enters_end c at steady few known bound =
    let n : ℕ = length c.service.strategy.steps in
    let there : Evolution = with_service_state c (stepped c.service n at) in
    elim (n == n)
    as (λ b. (n == n) ≡ b → Loose (basis c.service) at (let d : Evolution = (if b then finish there at else show_step (open_background there n at) (slice_get c.service.strategy.steps n) n at) in d)) [
      | true ↦ λ e. finished there at steady refl few known bound (omega arith)
      | false ↦ λ e. absurd (not_itself n e)
    ] refl
