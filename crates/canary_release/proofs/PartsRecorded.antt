-- Measurements change tallies alone, and a run that is closed leaves the others.
use Rattle.std.proofs.Common.{◌≡◌, ℕ, zero, suc, ◌+◌, ◌-◌, ◌≤◌, List, [], ◌∷◌, ◌++◌, length, refl, ap, sym, ◌∙◌, arith, subst}
use Rattle.std.specs.Prelude.{Bool, true, false, not, ◌&&◌, ◌||◌, ◌==◌, nat_lt, if◌then◌else◌, map, filter, is_some, is_none, Option, Some, None}
use Rattle.std.specs.List.{list_any}
use Rattle.canary_metric.specs.Metrics.{MetricValue}
use Rattle.canary_plan.specs.declared.report.Entry.{Entry}
use Rattle.canary_plan.specs.Plans.{analysis_at}
use Rattle.canary_release.specs.declared.effect.Recorded.{Recorded}
use Rattle.canary_release.specs.declared.effect.Effect.TheVariants.{MeasurementRecorded}
use Rattle.canary_release.specs.declared.state.ServiceState.{ServiceState}
use Rattle.canary_release.specs.declared.runs.OpenRun.{OpenRun}
use Rattle.canary_release.specs.declared.runs.Runs.{Runs}
use Rattle.canary_release.specs.Pasts.{change_at}
use Rattle.canary_release.specs.Watching.{counted, counted_in, is_other}
use Rattle.canary_release.specs.Evolutions.{Evolution, apply_effect, runs_now}
use Rattle.canary_release.specs.Rules.Reports.{Place, place_of, recorded_if, brought, record_all}
use Rattle.canary_release.specs.Parts.{is_background_run, is_step_run, is_misnumbered, has_wrong_tallies, has_other_revisions, is_bound_otherwise, is_elsewhere, is_astray, is_judged}
use Rattle.canary_release.proofs.PartsLists.{any_weaker, any_filter, any_filtered, any_map, any_map_same, few_map, few_filter, repeats_filter, repeats_map, and_false, of_others, of_other}
use Rattle.canary_release.proofs.PartsRuns.{Steady, with_open, happened_runs}
use Rattle.canary_release.proofs.PartsKept.{of_background, has_background, Unjudged, Fit}

-- measurements

changed_length : {A : Type 0} (k : ℕ) (f : A → A) (xs : List A) → length (change_at k f xs) ≡ length xs
changed_length k f [] = refl
changed_length zero f (x ∷ xs) = refl
changed_length (suc k) f (x ∷ xs) = ap suc (changed_length k f xs)

same_place : (x : Recorded) (r : OpenRun) → ((counted_in x r).number ≡ r.number) × ((counted_in x r).step ≡ r.step) × (length (counted_in x r).tallies ≡ length r.tallies) × ((counted_in x r).analysis ≡ r.analysis)
same_place x r =
    elim (r.number == x.run)
    as (λ b. let q : OpenRun = (if b then record r { tallies = change_at x.metric (counted x) r.tallies } else r) in (q.number ≡ r.number) × (q.step ≡ r.step) × (length q.tallies ≡ length r.tallies) × (q.analysis ≡ r.analysis))
    [ true ↦ (refl, refl, changed_length x.metric (counted x) r.tallies, refl) | false ↦ (refl, refl, refl, refl) ]

wrong_alike : (q r : OpenRun) → q.analysis ≡ r.analysis → length q.tallies ≡ length r.tallies → has_wrong_tallies r ≡ false → has_wrong_tallies q ≡ false
wrong_alike q r e l h = (λ i. not (length (e i).metrics == l i)) ∙ h

other_alike : (s : ServiceState) (q r : OpenRun) → q.step ≡ r.step → q.analysis ≡ r.analysis → has_other_revisions s r ≡ false → has_other_revisions s q ≡ false
other_alike s q r e l h = (λ i. is_bound_otherwise (analysis_at s.bound (e i)) (l i)) ∙ h

abbrev pub measured : Recorded → Runs → Runs
measured x w = with_open w (map (counted_in x) w.open_runs)

measured_fits : (s : ServiceState) (w : Runs) (x : Recorded) → Fit s w → Fit s (measured x w)
measured_fits s w x f =
    let change : OpenRun → OpenRun = counted_in x in
    let number = λ (r : OpenRun). (same_place x r).0 in
    let step = λ (r : OpenRun). (same_place x r).1 in
    let background : has_background (map change w.open_runs) ≡ has_background w.open_runs = any_map_same change is_background_run (λ r. ap is_none (step r)) w.open_runs in
    record {
      placed = f.placed;
      few = f.few;
      room = λ g. subst (λ b. (length s.strategy.steps - (s.step + 1)) + of_background (is_some s.strategy.background) s.background b s.background_hold ≤ 1000000 - w.count) (sym background) (f.room g);
      numbered = any_map change (is_misnumbered w.count) (is_misnumbered w.count) (λ r h. subst (λ k. (k == 0 || nat_lt w.count k) ≡ false) (sym (number r)) h) w.open_runs f.numbered;
      distinct = repeats_map change number w.open_runs f.distinct;
      tallied = any_map change has_wrong_tallies has_wrong_tallies (λ r h. wrong_alike (change r) r (same_place x r).3 (same_place x r).2 h) w.open_runs f.tallied;
      idle = λ g. ap (map change) (f.idle g);
      one_background = subst (λ n. n ≤ 1) (sym (few_map change is_background_run (λ r. ap is_none (step r)) w.open_runs)) f.one_background;
      one_step = subst (λ n. n ≤ 1) (sym (few_map change is_step_run (λ r. ap is_some (step r)) w.open_runs)) f.one_step;
      home = any_map change (is_astray s) (is_astray s) (λ r h. subst (λ o. is_elsewhere s o ≡ false) (sym (step r)) h) w.open_runs f.home;
      background_run = subst (λ b. (b && (not s.background || s.background_hold)) ≡ false) (sym background) f.background_run;
      held = f.held;
      known = f.known;
      hold = f.hold;
      bound = f.bound;
      same = any_map change (has_other_revisions s) (has_other_revisions s) (λ r h. other_alike s (change r) r (step r) (same_place x r).3 h) w.open_runs f.same;
    }

others_alike : (p : OpenRun → Bool) (x : Recorded) (r : OpenRun) → of_others x.run p r ≡ false → of_others x.run p (counted_in x r) ≡ false
others_alike p x r h =
    elim (r.number == x.run)
    as (λ b. (r.number == x.run) ≡ b → (not b && p r) ≡ false → (let q : OpenRun = (if b then record r { tallies = change_at x.metric (counted x) r.tallies } else r) in (not (q.number == x.run) && p q)) ≡ false)
    [ true ↦ λ e g. rw e refl | false ↦ λ e g. rw e g ] refl h

-- the others are not judged
abbrev pub OthersUnjudged : ℕ → Runs → Type 0
OthersUnjudged n w = list_any (of_others n is_judged) w.open_runs ≡ false

measured_others : (n : ℕ) (w : Runs) (x : Recorded) → x.run ≡ n → OthersUnjudged n w → OthersUnjudged n (measured x w)
measured_others n w x e h =
    subst (λ k. OthersUnjudged k w → OthersUnjudged k (measured x w)) e
    (λ (g : OthersUnjudged x.run w). any_map (counted_in x) (of_others x.run is_judged) (of_others x.run is_judged) (others_alike is_judged x) w.open_runs g) h

abbrev AreOf : ℕ → List Recorded → Type 0
AreOf n [] = Unit {0}
AreOf n (x ∷ xs) = (x.run ≡ n) × AreOf n xs

one_of : (r : OpenRun) (e : Entry) (o : Option Place) (xs : List Recorded) → AreOf r.number xs → AreOf r.number (recorded_if r e o ++ xs)
one_of r e None xs h = h
one_of r e (Some p) xs h = (refl, h)

brought_of : (ms : List MetricValue) (r : OpenRun) (es : List Entry) → AreOf r.number (brought ms r es)
brought_of ms r [] = tt
brought_of ms r (e ∷ es) = one_of r e (place_of ms r e) (brought ms r es) (brought_of ms r es)

-- it stands as before, and is unbroken but for time and that run's verdict
pub record StillFits (n : ℕ) (s : ServiceState) (c : Evolution) : Type 0 where
  pub steady : Steady c.watch
  pub service : c.service ≡ s
  pub fit : Fit s (runs_now c)
  pub others : OthersUnjudged n (runs_now c)

recorded : (n : ℕ) (c : Evolution) (xs : List Recorded) → AreOf n xs → Steady c.watch → Fit c.service (runs_now c) → OthersUnjudged n (runs_now c) → StillFits n c.service (record_all c xs)
recorded n c [] are steady f o = record { steady = steady; service = refl; fit = f; others = o }
recorded n c (x ∷ xs) are steady f o =
    let runs : runs_now (apply_effect c (MeasurementRecorded x)) ≡ measured x (runs_now c) = happened_runs c (MeasurementRecorded x) steady in
    recorded n (apply_effect c (MeasurementRecorded x)) xs are.1 steady
    (subst (λ (w : Runs). Fit c.service w) (sym runs) (measured_fits c.service (runs_now c) x f))
    (subst (λ (w : Runs). OthersUnjudged n w) (sym runs) (measured_others n (runs_now c) x are.0 o))

pub all_recorded : (c : Evolution) (ms : List MetricValue) (r : OpenRun) (es : List Entry) → Steady c.watch → Fit c.service (runs_now c) → Unjudged (runs_now c) → StillFits r.number c.service (record_all c (brought ms r es))
all_recorded c ms r es steady f u =
    recorded r.number c (brought ms r es) (brought_of ms r es) steady f
    (any_weaker is_judged (of_others r.number is_judged) (λ q h. and_false (is_other r.number q) (is_judged q) h) (runs_now c).open_runs u)

-- a run is closed

abbrev pub without : ℕ → Runs → Runs
without n w = with_open w (filter (is_other n) w.open_runs)

least : (there started held : Bool) → of_background there started false held ≤ of_background there started true held
least false started held = omega arith
least true false held = omega arith
least true true true = omega arith
least true true false = omega arith

fewer : (there started open' then' held : Bool) → (open' ≡ false → then' ≡ false) → of_background there started then' held ≤ of_background there started open' held
fewer there started open' false held h = elim open' as (λ b. of_background there started false held ≤ of_background there started b held) [ true ↦ least there started held | false ↦ omega arith ]
fewer there started true true held h = omega arith
fewer there started false true held h = cc (h refl)

closed_room : (a b c room : ℕ) → b ≤ c → a + c ≤ room → a + b ≤ room
closed_room a b c room le h = omega arith

and_less : (a b x : Bool) → (a ≡ false → b ≡ false) → (a && x) ≡ false → (b && x) ≡ false
and_less a false x w h = refl
and_less true true x w h = h
and_less false true x w h = cc (w refl)

less : (a b : ℕ) → b ≤ a → a ≤ 1 → b ≤ 1
less a b g h = omega arith

pub closed_fits : (s : ServiceState) (w : Runs) (n : ℕ) → Fit s w → Fit s (without n w)
closed_fits s w n f =
    let t : OpenRun → Bool = is_other n in
    let background : has_background w.open_runs ≡ false → has_background (filter t w.open_runs) ≡ false = any_filter t is_background_run w.open_runs in
    let there : Bool = is_some s.strategy.background in
    record {
      placed = f.placed;
      few = f.few;
      room = λ g.
          closed_room (length s.strategy.steps - (s.step + 1)) (of_background there s.background (has_background (filter t w.open_runs)) s.background_hold) (of_background there s.background (has_background w.open_runs) s.background_hold) (1000000 - w.count)
          (fewer there s.background (has_background w.open_runs) (has_background (filter t w.open_runs)) s.background_hold background) (f.room g);
      numbered = any_filter t (is_misnumbered w.count) w.open_runs f.numbered;
      distinct = repeats_filter t w.open_runs f.distinct;
      tallied = any_filter t has_wrong_tallies w.open_runs f.tallied;
      idle = λ g. ap (filter t) (f.idle g);
      one_background = less (length (filter is_background_run w.open_runs)) (length (filter is_background_run (filter t w.open_runs))) (few_filter t is_background_run w.open_runs) f.one_background;
      one_step = less (length (filter is_step_run w.open_runs)) (length (filter is_step_run (filter t w.open_runs))) (few_filter t is_step_run w.open_runs) f.one_step;
      home = any_filter t (is_astray s) w.open_runs f.home;
      background_run = and_less (has_background w.open_runs) (has_background (filter t w.open_runs)) (not s.background || s.background_hold) background f.background_run;
      held = f.held;
      known = f.known;
      hold = f.hold;
      bound = f.bound;
      same = any_filter t (has_other_revisions s) w.open_runs f.same;
    }

not_other : (b : Bool) → not b ≡ true → b ≡ false
not_other true h = cc h
not_other false h = refl

pub closed_unjudged : (w : Runs) (n : ℕ) → OthersUnjudged n w → Unjudged (without n w)
closed_unjudged w n h = any_filtered (is_other n) (of_others n is_judged) is_judged (λ r e o. of_other (r.number == n) (is_judged r) o (not_other (r.number == n) e)) w.open_runs h
