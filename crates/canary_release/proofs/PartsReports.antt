-- A report leaves parts unbroken, but for time.
use Rattle.std.proofs.Common.{◌≡◌, ℕ, ◌+◌, ◌-◌, ◌≤◌, ◌<◌, List, [], length, refl, ap, sym, ◌∙◌, arith, subst}
use Rattle.std.specs.Prelude.{Bool, true, false, not, ◌||◌, ◌==◌, if◌then◌else◌, find, is_some, is_none, Option, Some, None}
use Rattle.std.specs.List.{list_any}
use Rattle.std.proofs.lemmas.Bool.Decides.{nat_tests}
use Rattle.canary_condition.specs.declared.outcome.Phase.{Phase}
use Rattle.canary_condition.specs.declared.outcome.Phase.TheVariants.{Pending, Running, Successful, Inconclusive, Error, Failed}
use Rattle.canary_metric.specs.MetricPhases.{is_completed}
use Rattle.canary_plan.specs.declared.report.Entry.{Entry}
use Rattle.canary_plan.specs.declared.line.LineEvent.TheVariants.{Completed, StepHeld, BackgroundHeld, AbortedBy}
use Rattle.canary_plan.specs.Plans.{analysis_at}
use Rattle.canary_release.specs.declared.effect.Effect.TheVariants.{RunClosed}
use Rattle.canary_release.specs.declared.state.ServiceState.{ServiceState}
use Rattle.canary_release.specs.declared.runs.OpenRun.{OpenRun}
use Rattle.canary_release.specs.declared.runs.Runs.{Runs}
use Rattle.canary_release.specs.Services.{is_in_progress, is_held}
use Rattle.canary_release.specs.Evolutions.{Evolution, with_service_state, tell, runs_now, open_run_now, has_number, run_verdict, close_run}
use Rattle.canary_release.specs.Rules.Entering.{enter}
use Rattle.canary_release.specs.Rules.Reports.{brought, record_all, abort_by_run, hold_step, hold_background, consequence, complete, assess, report_on}
use Rattle.canary_release.specs.Parts.{is_background_run, is_step_run, is_elsewhere, is_astray, is_judged}
use Rattle.canary_release.proofs.Keeping.{ended_service_state}
use Rattle.canary_release.proofs.PartsLists.{or_left, or_right, and_with, found_passes, found_false, found_any, only_one, none_of_all, none_without}
use Rattle.canary_release.proofs.PartsRuns.{Steady, with_open, ended_watch, told_runs, happened_runs, none_open}
use Rattle.canary_release.proofs.PartsKept.{of_background, has_background, Fit}
use Rattle.canary_release.proofs.PartsFresh.{Basis, basis, Accepted}
use Rattle.canary_release.proofs.PartsReady.{none_astray, held_going}
use Rattle.canary_release.proofs.PartsEntering.{Loose, loose_as, aborts, enters}
use Rattle.canary_release.proofs.PartsPassing.{goes_below, bound_going, next_ready}
use Rattle.canary_release.proofs.PartsRecorded.{OthersUnjudged, StillFits, all_recorded, without, closed_fits, closed_unjudged}

-- holds

step_held_fits : (s : ServiceState) (w : Runs) → Fit s w → is_in_progress s.state ≡ true → list_any is_step_run w.open_runs ≡ false → Fit (record s { step_hold = true }) w
step_held_fits s w f g no_step =
    record {
      placed = f.placed;
      few = f.few;
      room = f.room;
      numbered = f.numbered;
      distinct = f.distinct;
      tallied = f.tallied;
      idle = f.idle;
      one_background = f.one_background;
      one_step = f.one_step;
      home = none_astray (record s { step_hold = true }) w.open_runs no_step;
      background_run = f.background_run;
      held = held_going true (is_in_progress s.state) g;
      known = f.known;
      hold = f.hold;
      bound = f.bound;
      same = f.same;
    }

-- the run numbers that are left if the background is open are enough if it is held
abbrev pub HasRoom : ServiceState → Runs → Type 0
HasRoom s w = (length s.strategy.steps - (s.step + 1)) + of_background (is_some s.strategy.background) s.background true s.background_hold ≤ 1000000 - w.count

background_held_fits : (s : ServiceState) (w : Runs) → Fit s w → is_in_progress s.state ≡ true → s.background ≡ true → HasRoom s w → Fit (record s { background_hold = true }) (with_open w [])
background_held_fits s w f g begun room =
    record {
      placed = f.placed;
      few = f.few;
      room = λ _. room;
      numbered = refl;
      distinct = refl;
      tallied = refl;
      idle = λ _. refl;
      one_background = omega arith;
      one_step = omega arith;
      home = refl;
      background_run = refl;
      held = held_going (s.step_hold || true) (is_in_progress s.state) g;
      known = f.known;
      hold = ap not begun;
      bound = f.bound;
      same = refl;
    }

-- once a run is closed

-- what is known of a closed run at a step, or of the background
abbrev pub AtRun : Evolution → Option ℕ → Type 0
AtRun c (Some i) = (list_any is_step_run (runs_now c).open_runs ≡ false) × (is_held c.service ≡ false)
AtRun c None = (c.service.background ≡ true) × HasRoom c.service (runs_now c)

pub record Closes (s : Basis) (t : ℕ) (c : Evolution) (step : Option ℕ) : Type 0 where
  pub accepted : Accepted (basis c.service)
  pub loose : Loose s t c
  pub going : is_in_progress c.service.state ≡ true
  pub run : AtRun c step

pub of_strategy : (s u : Basis) (t : ℕ) (c : Evolution) → s ≡ u → Loose s t c → Loose u t c
of_strategy s u t c e l = subst (λ x. Loose x t c) e l

by_run : (s : Basis) (t : ℕ) (c : Evolution) (run : ℕ) → Loose s t c → is_in_progress c.service.state ≡ true → Loose s t (abort_by_run c run t)
by_run s t c run l g =
    let d : Evolution = tell c t (AbortedBy run) in
    let few : (runs_now d).count ≤ 1000000 = subst (λ (w : Runs). w.count ≤ 1000000) (sym (told_runs c t (AbortedBy run) l.steady)) l.fit.few in
    of_strategy (basis c.service) s t (abort_by_run c run t) l.same (aborts d t l.steady (goes_below c.service (runs_now c) l.fit g) few l.fit.known (bound_going c.service l.fit g) l.entered)

holds_step : (s : Basis) (t : ℕ) (c : Evolution) → Loose s t c → is_in_progress c.service.state ≡ true → list_any is_step_run (runs_now c).open_runs ≡ false → Loose s t (hold_step c t)
holds_step s t c l g no_step =
    let d : Evolution = with_service_state c (record c.service { step_hold = true }) in
    of_strategy (basis c.service) s t (hold_step c t) l.same
    (loose_as t (hold_step c t) d.service (runs_now c) l.steady refl (told_runs d t (StepHeld c.service.step) l.steady) l.entered (step_held_fits c.service (runs_now c) l.fit g no_step) l.unjudged)

holds_background : (s : Basis) (t : ℕ) (c : Evolution) → Loose s t c → is_in_progress c.service.state ≡ true → c.service.background ≡ true → HasRoom c.service (runs_now c) → Loose s t (hold_background c t)
holds_background s t c l g begun room =
    let b : Evolution = with_service_state c (record c.service { background_hold = true }) in
    let d : Evolution = tell b t BackgroundHeld in
    let steady = subst Steady (sym (ended_watch t d (runs_now d).open_runs)) l.steady in
    let runs = none_open d t l.steady ∙ ap (λ (w : Runs). with_open w []) (told_runs b t BackgroundHeld l.steady) in
    of_strategy (basis c.service) s t (hold_background c t) l.same
    (loose_as t (hold_background c t) b.service (with_open (runs_now c) []) steady (ended_service_state t d (runs_now d).open_runs) runs l.entered (background_held_fits c.service (runs_now c) l.fit g begun room) refl)

goes_on : (s : Basis) (t : ℕ) (c : Evolution) → Accepted (basis c.service) → Loose s t c → is_in_progress c.service.state ≡ true → list_any is_step_run (runs_now c).open_runs ≡ false → is_held c.service ≡ false → Loose s t (enter c (c.service.step + 1) t)
goes_on s t c acc l g no_step unheld =
    let st : ServiceState = c.service in
    let below : st.step < length st.strategy.steps = goes_below st (runs_now c) l.fit g in
    let ready = next_ready st (runs_now c) l.fit l.unjudged g (or_left st.step_hold st.background_hold unheld) (or_right st.step_hold st.background_hold unheld) no_step in
    of_strategy (basis st) s t (enter c (st.step + 1) t) l.same (enters c (st.step + 1) t acc l.steady (omega arith) ready)

follows : (s : Basis) (t : ℕ) (c : Evolution) (run : ℕ) (step : Option ℕ) (v : Phase) → Closes s t c step → Loose s t (consequence c run step v t)
follows s t c run step Failed a = by_run s t c run a.loose a.going
follows s t c run step Error a = by_run s t c run a.loose a.going
follows s t c run (Some i) Inconclusive a = holds_step s t c a.loose a.going a.run.0
follows s t c run None Inconclusive a = holds_background s t c a.loose a.going a.run.0 a.run.1
follows s t c run (Some i) Successful a = goes_on s t c a.accepted a.loose a.going a.run.0 a.run.1
follows s t c run None Successful a = a.loose
follows s t c run step Pending a = a.loose
follows s t c run step Running a = a.loose

-- a run that is found and closed

pub found_going : (g : Bool) (t : OpenRun → Bool) (rs : List OpenRun) (r : OpenRun) → (g ≡ false → rs ≡ []) → find t rs ≡ Some r → g ≡ true
found_going true t rs r idle h = refl
found_going false t rs r idle h = let none : ◌≡◌ {A = Option OpenRun} None (Some r) = subst (λ xs. find t xs ≡ Some r) (idle refl) h in cc none

its_number : (rs : List OpenRun) (n : ℕ) (r : OpenRun) → find (has_number n) rs ≡ Some r → n ≡ r.number
its_number rs n r h = let e : (r.number == n) ≡ true = found_passes (has_number n) rs r h in grind (arith, nat_tests)

was_begun : (b : Bool) → not b ≡ false → b ≡ true
was_begun true h = refl
was_begun false h = cc h

at_run : (c : Evolution) (s : ServiceState) (w : Runs) (r : OpenRun) (o : Option ℕ) → c.service ≡ s → runs_now c ≡ without r.number w → r.step ≡ o → find (has_number r.number) w.open_runs ≡ Some r → is_in_progress s.state ≡ true → Fit s w → AtRun c o
at_run c s w r (Some i) service runs e h g f =
    let taken : list_any is_step_run (without r.number w).open_runs ≡ false = only_one (has_number r.number) is_step_run w.open_runs r h (ap is_some e) f.one_step in
    let home : is_elsewhere s (Some i) ≡ false = subst (λ o. is_elsewhere s o ≡ false) e (found_false (has_number r.number) (is_astray s) w.open_runs r h f.home) in
    let unheld : is_held s ≡ false = or_right (is_none (analysis_at s.bound (Some i))) (is_held s) (or_right (not (i == s.step)) (is_none (analysis_at s.bound (Some i)) || is_held s) home) in
    (subst (λ (v : Runs). list_any is_step_run v.open_runs ≡ false) (sym runs) taken, subst (λ (x : ServiceState). is_held x ≡ false) (sym service) unheld)
at_run c s w r None service runs e h g f =
    let open' : has_background w.open_runs ≡ true = found_any (has_number r.number) is_background_run w.open_runs r h (ap is_none e) in
    let begun : s.background ≡ true = was_begun s.background (or_left (not s.background) s.background_hold (and_with (has_background w.open_runs) (not s.background || s.background_hold) f.background_run open')) in
    let room : HasRoom s w = subst (λ b. (length s.strategy.steps - (s.step + 1)) + of_background (is_some s.strategy.background) s.background b s.background_hold ≤ 1000000 - w.count) open' (f.room g) in (
      subst (λ (x : ServiceState). x.background ≡ true) (sym service) begun,
      subst (λ (x : ServiceState). HasRoom x (runs_now c)) (sym service) (subst (λ (v : Runs). HasRoom s v) (sym runs) room),
    )

completes : (t n : ℕ) (c : Evolution) (r : OpenRun) (v : Phase) → Accepted (basis c.service) → find (has_number n) (runs_now c).open_runs ≡ Some r → Steady c.watch → c.service.entered ≤ t → Fit c.service (runs_now c) → OthersUnjudged n (runs_now c) → Loose (basis c.service) t (complete c r v t)
completes t n c r v acc found steady entered f others =
    let w : Runs = runs_now c in
    let st : ServiceState = c.service in
    let same : n ≡ r.number = its_number w.open_runs n r found in
    let h : find (has_number r.number) w.open_runs ≡ Some r = subst (λ k. find (has_number k) w.open_runs ≡ Some r) same found in
    let o : OthersUnjudged r.number w = subst (λ k. OthersUnjudged k w) same others in
    let closed : Evolution = close_run c r t false in
    let b : Evolution = tell closed t (Completed r.number v) in
    let runs : runs_now b ≡ without r.number w = told_runs closed t (Completed r.number v) steady ∙ happened_runs c (RunClosed (record { run = r.number; at = t; outside = false; verdict = run_verdict false r }) r.tallies) steady in
    let g : is_in_progress st.state ≡ true = found_going (is_in_progress st.state) (has_number r.number) w.open_runs r f.idle h in
    follows (basis st) t b r.number r.step v (record {
      accepted = acc;
      loose = loose_as t b st (without r.number w) steady refl runs entered (closed_fits st w r.number f) (closed_unjudged w r.number o);
      going = g;
      run = at_run b st w r r.step refl runs refl h g f;
    })

assessed : (t n : ℕ) (c : Evolution) (o : Option OpenRun) → Accepted (basis c.service) → find (has_number n) (runs_now c).open_runs ≡ o → Steady c.watch → c.service.entered ≤ t → Fit c.service (runs_now c) → OthersUnjudged n (runs_now c) → Loose (basis c.service) t (assess c o t)
assessed t n c None acc found steady entered f others =
    record { steady = steady; same = refl; entered = entered; fit = f; unjudged = none_without is_judged n (runs_now c).open_runs found others }
assessed t n c (Some r) acc found steady entered f others =
    let v : Phase = run_verdict false r in
    elim (is_completed v)
    as (λ b. is_completed v ≡ b → Loose (basis c.service) t (let d : Evolution = (if b then complete c r v t else c) in d)) [
      | true ↦ λ e. completes t n c r v acc found steady entered f others
      | false ↦ λ e. record { steady = steady; same = refl; entered = entered; fit = f; unjudged = none_of_all is_judged n (runs_now c).open_runs r f.distinct found e others }
    ] refl

pub reported : (s : Basis) (t : ℕ) (c : Evolution) (r : OpenRun) (es : List Entry) → Accepted s → Loose s t c → Loose s t (report_on c r es t)
reported s t c r es acc l =
    let all : Evolution = record_all c (brought r.analysis.metrics r es) in
    let still : StillFits r.number c.service all = all_recorded c r.analysis.metrics r es l.steady l.fit l.unjudged in
    let same : basis all.service ≡ s = ap basis still.service ∙ l.same in
    of_strategy (basis all.service) s t (report_on c r es t) same
    (assessed t r.number all (open_run_now all r.number) (subst Accepted (sym same) acc) refl still.steady
    (subst (λ (x : ServiceState). x.entered ≤ t) (sym still.service) l.entered)
    (subst (λ (x : ServiceState). Fit x (runs_now all)) (sym still.service) still.fit)
    still.others)
