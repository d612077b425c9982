-- Entering, passing and aborting bring allowed effects alone.
use Rattle.std.proofs.Common.{◌≡◌, ℕ, zero, suc, ◌+◌, ◌-◌, List, [], ◌∷◌, length, Bool, true, false, refl, ap, sym, subst, ◌∙◌, eqb-true, eq-eqb, true≢false}
use Rattle.std.specs.Prelude.{◌==◌, not, if◌then◌else◌, Option, Some, None, slice_get, unwrap_or, map, filter}
use Rattle.std.specs.List.{AllByRecursion, find, zip}
use Rattle.canary_condition.specs.declared.outcome.Phase.{Phase}
use Rattle.canary_condition.specs.declared.outcome.Phase.TheVariants.{Pending, Running, Successful, Inconclusive, Error, Failed}
use Rattle.canary_metric.specs.MetricPhases.{is_completed}
use Rattle.canary_metric.specs.Verdicts.{counted_phase, judging}
use Rattle.canary_plan.specs.declared.step.Step.{Step}
use Rattle.canary_plan.specs.declared.step.Step.TheVariants.{SetWeight, Pause, Analysis}
use Rattle.canary_plan.specs.declared.service.Background.{Background}
use Rattle.canary_plan.specs.declared.line.LineEvent.{LineEvent}
use Rattle.canary_plan.specs.declared.line.LineEvent.TheVariants.{BackgroundOpened, AnalysisEntered, WeightEntered, PauseEntered, TimedPauseEntered, Finished, Completed, AbortedBy, BackgroundHeld, StepHeld, Ended}
use Rattle.std.specs.Cmp.Lexicographic.{pointwise}
use Rattle.canary_plan.specs.declared.analysis_parts.AnalysisParts.{AnalysisParts}
use Rattle.canary_plan.specs.declared.bound.BoundParts.{BoundParts}
use Rattle.canary_plan.specs.Fit.{no_analysis}
use Rattle.canary_plan.specs.Plans.{bound_of, analysis_if, analysis_at, analysis_or_none}
use Rattle.canary_release.specs.Services.{is_in_progress, is_held}
use Rattle.canary_release.specs.Parts.{is_bound_to, is_step_bound, is_background_bound, is_bound}
use Rattle.canary_release.specs.Desks.{RevisionMap}
use Rattle.canary_release.specs.Order.{known_by}
use Rattle.canary_release.proofs.Chains.{going}
use Rattle.canary_release.specs.declared.effect.Effect.TheVariants.{LineAdded, RunOpened, RunClosed}
use Rattle.canary_release.specs.declared.runs.OpenRun.{OpenRun}
use Rattle.canary_release.specs.declared.runs.Runs.{Runs}
use Rattle.canary_release.specs.declared.state.ServiceState.{ServiceState}
use Rattle.canary_release.specs.declared.state.ReleaseState.TheVariants.{Aborted}
use Rattle.canary_release.specs.Watching.{is_other}
use Rattle.canary_release.specs.Evolutions.{Evolution, with_service_state, tell, runs_now, has_number, open_run_now, run_verdict, next_run, open_run, close_run, end_run, end_runs, end_open_runs}
use Rattle.canary_release.specs.Rules.Entering.{begins_background, begin_background, open_background, done, finish, show_step, enter, abort, without_holds}
use Rattle.canary_release.specs.Rules.Passing.{next_move, is_by, move_at, chain_end, pass, judged_at, followed}
use Rattle.canary_release.specs.Rules.Reports.{consequence, complete, assess_run, assess}
use Rattle.canary_release.proofs.PartsFresh.{and_left, and_right}
use Rattle.canary_release.proofs.OrderingBasics.{not_same, each_both, found_passes, found_behind, found_first, found_filtered, fold_completed}
use Rattle.canary_release.proofs.OrderingAllowed.{AreDistinct, IsNumbered, IsFollowing, numbered_now, follows_on, now_after, stands_on, as_bound}

-- of open runs with different numbers, each is the one of its number
each_found : (rs : List OpenRun) → AreDistinct rs → AllByRecursion (λ (q : OpenRun). find (has_number q.number) rs ≡ Some q) rs
each_found [] d = tt
each_found (r ∷ rs) d = (
  found_first (has_number r.number) r rs (eq-eqb r.number r.number refl),
  each_both
      (λ (q : OpenRun). find (has_number q.number) rs ≡ Some q)
      (λ (q : OpenRun). (q.number == r.number) ≡ false)
      (λ (q : OpenRun). find (has_number q.number) (r ∷ rs) ≡ Some q)
      (λ q e differ. found_behind (has_number q.number) r rs (Some q) (turned r.number q.number differ) e)
      rs (each_found rs d.1) d.0,
)
  where
    turned : (a b : ℕ) → (b == a) ≡ false → (a == b) ≡ false
    turned a b e = elim (a == b) as (λ t. (a == b) ≡ t → t ≡ false) [ true ↦ λ t. absurd (not_same b a e (sym (eqb-true a b t))) | false ↦ λ t. refl ] refl

-- another run is still found after one is closed
still_found : (k m : ℕ) (rs : List OpenRun) → (k == m) ≡ false → find (has_number k) (filter (is_other m) rs) ≡ find (has_number k) rs
still_found k m rs differ = found_filtered (has_number k) (is_other m) (λ r. gone r.number) rs
  where
    gone : (n : ℕ) → not (n == m) ≡ false → (n == k) ≡ false
    gone n e =
        elim (n == m)
        as (λ a. (n == m) ≡ a → not a ≡ false → (n == k) ≡ false) [
          | true ↦ λ a h.
              elim (n == k) as (λ b. (n == k) ≡ b → b ≡ false) [ true ↦ λ b. absurd (not_same k m differ (sym (eqb-true n k b) ∙ eqb-true n m a)) | false ↦ λ b. refl ] refl
          | false ↦ λ a h. absurd (true≢false h)
        ] refl e

-- an analysis that is bound is there
found_bound : (names : List (List ℕ)) (o : Option AnalysisParts) → is_bound_to names o ≡ true → (a : AnalysisParts) × (o ≡ Some a)
found_bound names None h = cc h
found_bound names (Some a) h = (a, refl)

step_bound : (steps : List Step) (found : List (Option AnalysisParts)) (i : ℕ) (names : List (List ℕ)) → pointwise is_step_bound steps found ≡ true → slice_get steps i ≡ Some (Analysis names) → is_bound_to names (analysis_if (slice_get found i)) ≡ true
step_bound [] found i names h e = cc e
step_bound (step ∷ steps) [] i names h e = cc h
step_bound (step ∷ steps) (a ∷ found) zero names h e =
    let is : step ≡ Analysis names = cc e in
    subst (λ x. is_step_bound x a ≡ true) is (and_left (is_step_bound step a) (pointwise is_step_bound steps found) h)
step_bound (step ∷ steps) (a ∷ found) (suc i) names h e = step_bound steps found i names (and_right (is_step_bound step a) (pointwise is_step_bound steps found) h) e

-- an analysis step has its analysis
analysis_there : (s : ServiceState) (i : ℕ) (names : List (List ℕ)) → is_bound s ≡ true → slice_get s.strategy.steps i ≡ Some (Analysis names) → (a : AnalysisParts) × (analysis_at s.bound (Some i) ≡ Some a)
analysis_there s i names h e =
    found_bound names (analysis_at s.bound (Some i)) (step_bound s.strategy.steps s.bound.steps i names (and_left (pointwise is_step_bound s.strategy.steps s.bound.steps) (is_background_bound s.strategy.background s.bound.background) h) e)

-- a background that begins has its analysis
background_there : (s : ServiceState) (i : ℕ) (started : Bool) → is_bound s ≡ true → begins_background s.strategy.background i started ≡ true → (a : AnalysisParts) × (analysis_at s.bound None ≡ Some a)
background_there s i started h e = by s.strategy.background e (and_right (pointwise is_step_bound s.strategy.steps s.bound.steps) (is_background_bound s.strategy.background s.bound.background) h)
  where
    by : (b : Option Background) → begins_background b i started ≡ true → is_background_bound b s.bound.background ≡ true → (a : AnalysisParts) × (s.bound.background ≡ Some a)
    by None e g = absurd (true≢false (sym e))
    by (Some b) e g = found_bound b.templates s.bound.background g

-- a run that is ended from outside has a completed verdict
ended_completed : (r : OpenRun) → is_completed (run_verdict true r) ≡ true
ended_completed r = fold_completed Successful (map (counted_phase true) (judging (zip r.analysis.metrics r.tallies))) refl

module _ (ts : RevisionMap) (s : ServiceState) (w : Runs) (numbered : IsNumbered w) where
  pub told : (c : Evolution) (at : ℕ) (event : LineEvent) → IsFollowing ts s w c → IsFollowing ts s w (tell c at event)
  told c at event f = follows_on ts s w c (LineAdded (record { moment = at; event = event })) f tt

  pub closed : (c : Evolution) (r : OpenRun) (at : ℕ) (outside : Bool) → IsFollowing ts s w c → find (has_number r.number) (runs_now c).open_runs ≡ Some r → is_completed (run_verdict outside r) ≡ true → IsFollowing ts s w (close_run c r at outside)
  closed c r at outside f found completed =
      follows_on ts s w c (RunClosed (record { run = r.number; at = at; outside = outside; verdict = run_verdict outside r }) r.tallies) f (record { run = r; found = found; verdict = refl; completed = completed; last = refl })

  -- one after another of open runs with different numbers
  ended : (at : ℕ) (c : Evolution) (rs : List OpenRun) → IsFollowing ts s w c → AllByRecursion (λ (q : OpenRun). find (has_number q.number) (runs_now c).open_runs ≡ Some q) rs → AreDistinct rs → IsFollowing ts s w (end_runs at c rs)
  ended at c [] f h d = f
  ended at c (r ∷ rs) f h d =
      let one : Evolution = close_run c r at true in
      let f1 : IsFollowing ts s w one = closed c r at true f h.0 (ended_completed r) in
      let two : Evolution = end_run at c r in
      let f2 : IsFollowing ts s w two = told one at (Ended r.number (run_verdict true r)) f1 in
      let now : runs_now two ≡ record { count = (runs_now c).count; open_runs = filter (is_other r.number) (runs_now c).open_runs } =
      now_after ts s w one (LineAdded (record { moment = at; event = Ended r.number (run_verdict true r) })) f1
      ∙ now_after ts s w c (RunClosed (record { run = r.number; at = at; outside = true; verdict = run_verdict true r }) r.tallies) f in
      ended at two rs f2
      (each_both
      (λ (q : OpenRun). find (has_number q.number) (runs_now c).open_runs ≡ Some q)
      (λ (q : OpenRun). (q.number == r.number) ≡ false)
      (λ (q : OpenRun). find (has_number q.number) (runs_now two).open_runs ≡ Some q)
      (λ q e differ. ap (λ (v : Runs). find (has_number q.number) v.open_runs) now ∙ still_found q.number r.number (runs_now c).open_runs differ ∙ e)
      rs h.1 d.0)
      d.1

  pub all_ended : (c : Evolution) (at : ℕ) → IsFollowing ts s w c → IsFollowing ts s w (end_open_runs c at)
  all_ended c at f =
      let n = numbered_now ts s w numbered c f in
      ended at c (runs_now c).open_runs f (each_found (runs_now c).open_runs n.distinct) n.distinct

  opened : (c : Evolution) (step : Option ℕ) (at : ℕ) (a : AnalysisParts) → IsFollowing ts s w c → analysis_at c.service.bound step ≡ Some a → IsFollowing ts s w (open_run c step at)
  opened c step at a f e =
      let b = f.bound.binding in
      let same : bound_of (known_by ts b) s.strategy ≡ c.service.bound = ap (bound_of (known_by ts b)) (sym f.strategy) ∙ sym f.bound.bound in
      let is : analysis_at (bound_of (known_by ts b) s.strategy) step ≡ Some (analysis_or_none c.service.bound step) = ap (λ (x : BoundParts). analysis_at x step) same ∙ e ∙ sym (ap (λ (o : Option AnalysisParts). Some (unwrap_or o no_analysis)) e) in
      follows_on ts s w c (RunOpened (record { run = next_run c; step = step; analysis = analysis_or_none c.service.bound step; started = at })) f (record { number = refl; binding = b; analysis = is })

  -- standing otherwise, bound as before and in progress only if it was
  stays : (c : Evolution) (d : ServiceState) → IsFollowing ts s w c → d.strategy ≡ c.service.strategy → d.name ≡ c.service.name → d.bound ≡ c.service.bound → (is_in_progress d.state ≡ true → is_bound d ≡ true) → IsFollowing ts s w (with_service_state c d)
  stays c d f same named bound wholly = stands_on ts s w c d f same named (as_bound ts s w c d f same bound) wholly

  background_opened : (c : Evolution) (i at : ℕ) → is_in_progress c.service.state ≡ true → IsFollowing ts s w c → IsFollowing ts s w (open_background c i at)
  background_opened c i at g f =
      elim (begins_background c.service.strategy.background i c.service.background)
      as (λ b. begins_background c.service.strategy.background i c.service.background ≡ b → IsFollowing ts s w (if b then begin_background c at else c)) [
        | true ↦ λ e.
            let there = background_there c.service i c.service.background (f.wholly g) e in
            let d : Evolution = with_service_state c (record c.service { background = true }) in
            let fd : IsFollowing ts s w d = stays c (record c.service { background = true }) f refl refl refl f.wholly in
            let fo : IsFollowing ts s w (open_run d None at) = opened d None at there.0 fd there.1 in
            told (open_run d None at) at (BackgroundOpened (next_run c)) fo
        | false ↦ λ e. f
      ] refl

  shown : (c : Evolution) (o : Option Step) (i at : ℕ) → is_in_progress c.service.state ≡ true → IsFollowing ts s w c → slice_get c.service.strategy.steps i ≡ o → IsFollowing ts s w (show_step c o i at)
  shown c (Some (SetWeight percent)) i at g f e = told c at (WeightEntered i percent) f
  shown c (Some (Pause None)) i at g f e = told c at (PauseEntered i) f
  shown c (Some (Pause (Some seconds))) i at g f e = told c at (TimedPauseEntered i seconds) f
  shown c (Some (Analysis names)) i at g f e =
      let there = analysis_there c.service i names (f.wholly g) e in
      told (open_run c (Some i) at) at (AnalysisEntered i (next_run c)) (opened c (Some i) at there.0 f there.1)
  shown c None i at g f e = f

  -- the step is shown, once the background was opened if it begins here
  after_background : (c : Evolution) (i at : ℕ) → is_in_progress c.service.state ≡ true → IsFollowing ts s w c → (o : Option Step) → slice_get c.service.strategy.steps i ≡ o → IsFollowing ts s w (show_step (open_background c i at) o i at)
  after_background c i at g f o e =
      elim (begins_background c.service.strategy.background i c.service.background)
      as (λ b. IsFollowing ts s w (if b then begin_background c at else c) → IsFollowing ts s w (show_step (let d : Evolution = (if b then begin_background c at else c) in d) o i at))
      [ true ↦ λ h. shown (begin_background c at) o i at g h e | false ↦ λ h. shown c o i at g h e ] (background_opened c i at g f)

  finished : (c : Evolution) (at : ℕ) → IsFollowing ts s w c → IsFollowing ts s w (finish c at)
  finished c at f =
      let d : Evolution = end_open_runs c at in
      let fd : IsFollowing ts s w d = all_ended c at f in
      let e : Evolution = with_service_state d (done d.service) in
      let fe : IsFollowing ts s w e = stays d (done d.service) fd refl refl refl (λ g. cc g) in
      told e at (Finished d.service.version) fe

  pub entered : (c : Evolution) (i at : ℕ) → is_in_progress c.service.state ≡ true → IsFollowing ts s w c → IsFollowing ts s w (enter c i at)
  entered c i at g f =
      let there : Evolution = with_service_state c (record c.service { step = i; entered = at }) in
      let ft : IsFollowing ts s w there = stays c (record c.service { step = i; entered = at }) f refl refl refl f.wholly in
      elim (i == length c.service.strategy.steps)
      as (λ b. IsFollowing ts s w (if b then finish there at else show_step (open_background there i at) (slice_get c.service.strategy.steps i) i at)) [
        | true ↦ finished there at ft
        | false ↦ after_background there i at g ft (slice_get c.service.strategy.steps i) refl
      ]

  pub aborted : (c : Evolution) (at : ℕ) → IsFollowing ts s w c → IsFollowing ts s w (abort c at)
  aborted c at f =
      let d : Evolution = with_service_state c (record (without_holds c.service) { state = Aborted }) in
      all_ended d at (stays c (record (without_holds c.service) { state = Aborted }) f refl refl refl (λ g. cc g))

  moved : (c : Evolution) (o : Option ℕ) → is_in_progress c.service.state ≡ true → IsFollowing ts s w c → IsFollowing ts s w (move_at c o)
  moved c None g f = f
  moved c (Some e) g f = entered c (c.service.step + 1) e g f

  chained : (n t : ℕ) (c : Evolution) → IsFollowing ts s w c → IsFollowing ts s w (chain_end n t c)
  chained zero t c f = f
  chained (suc n) t c f =
      let move : Option ℕ = next_move c.service in
      elim (is_by t move)
      as (λ b. is_by t move ≡ b → IsFollowing ts s w (elim b [ true ↦ chain_end n t (move_at c move) | false ↦ c ]))
      [ true ↦ λ e. chained n t (move_at c move) (moved c move (and_left (is_in_progress c.service.state) (not (is_held c.service)) (going c t e).moves.0) f) | false ↦ λ e. f ] refl

  pub passed : (c : Evolution) (t : ℕ) → IsFollowing ts s w c → IsFollowing ts s w (pass c t)
  passed c t f =
      let at = judged_at c.service t in
      let d : Evolution = followed c at in
      let fd = chained (length c.service.strategy.steps - c.service.step) at c f in
      stays d (record d.service { last = at }) fd refl refl refl fd.wholly

  held_background : (c : Evolution) (t : ℕ) → IsFollowing ts s w c → IsFollowing ts s w (end_open_runs (tell (with_service_state c (record c.service { background_hold = true })) t BackgroundHeld) t)
  held_background c t f =
      let d : Evolution = with_service_state c (record c.service { background_hold = true }) in
      let e : Evolution = tell d t BackgroundHeld in
      all_ended e t (told d t BackgroundHeld (stays c (record c.service { background_hold = true }) f refl refl refl f.wholly))

  held_step : (c : Evolution) (t : ℕ) → IsFollowing ts s w c → IsFollowing ts s w (tell (with_service_state c (record c.service { step_hold = true })) t (StepHeld c.service.step))
  held_step c t f =
      let d : Evolution = with_service_state c (record c.service { step_hold = true }) in
      told d t (StepHeld c.service.step) (stays c (record c.service { step_hold = true }) f refl refl refl f.wholly)

  brings : (c : Evolution) (run : ℕ) (step : Option ℕ) (v : Phase) (t : ℕ) → is_in_progress c.service.state ≡ true → IsFollowing ts s w c → IsFollowing ts s w (consequence c run step v t)
  brings c run step Failed t g f = aborted (tell c t (AbortedBy run)) t (told c t (AbortedBy run) f)
  brings c run step Error t g f = aborted (tell c t (AbortedBy run)) t (told c t (AbortedBy run) f)
  brings c run (Some i) Inconclusive t g f = held_step c t f
  brings c run None Inconclusive t g f = held_background c t f
  brings c run (Some i) Successful t g f = entered c (c.service.step + 1) t g f
  brings c run None Successful t g f = f
  brings c run step Pending t g f = f
  brings c run step Running t g f = f

  completed : (c : Evolution) (r : OpenRun) (t : ℕ) → is_in_progress c.service.state ≡ true → IsFollowing ts s w c → find (has_number r.number) (runs_now c).open_runs ≡ Some r → is_completed (run_verdict false r) ≡ true → IsFollowing ts s w (complete c r (run_verdict false r) t)
  completed c r t g f found done_now =
      let v = run_verdict false r in
      let one : Evolution = close_run c r t false in
      let two : Evolution = tell one t (Completed r.number v) in
      brings two r.number r.step v t g (told one t (Completed r.number v) (closed c r t false f found done_now))

  assessed_run : (c : Evolution) (r : OpenRun) (t : ℕ) → is_in_progress c.service.state ≡ true → IsFollowing ts s w c → find (has_number r.number) (runs_now c).open_runs ≡ Some r → IsFollowing ts s w (assess_run c r t)
  assessed_run c r t g f found =
      let v = run_verdict false r in
      elim (is_completed v)
      as (λ b. is_completed v ≡ b → IsFollowing ts s w (if b then complete c r v t else c))
      [ true ↦ λ e. completed c r t g f found e | false ↦ λ e. f ] refl

  pub assessed : (c : Evolution) (number : ℕ) (o : Option OpenRun) (t : ℕ) → is_in_progress c.service.state ≡ true → IsFollowing ts s w c → open_run_now c number ≡ o → IsFollowing ts s w (assess c o t)
  assessed c number None t g f e = f
  assessed c number (Some r) t g f e =
      let same : r.number ≡ number = eqb-true r.number number (found_passes (has_number number) (runs_now c).open_runs r e) in
      assessed_run c r t g f (ap (λ n. find (has_number n) (runs_now c).open_runs) same ∙ e)
