-- Passing leaves parts unbroken.
use Rattle.std.proofs.Common.{◌≡◌, ℕ, zero, suc, ◌+◌, ◌-◌, ◌≤◌, ◌<◌, List, length, refl, ap, sym, arith, subst}
use Rattle.std.specs.Prelude.{Bool, true, false, not, ◌&&◌, ◌||◌, ◌==◌, nat_lt, if◌then◌else◌, is_some, is_none, Option, Some, None}
use Rattle.std.specs.List.{list_any}
use Rattle.std.proofs.lemmas.Bool.Decides.{nat_tests}
use Rattle.canary_plan.specs.declared.step.Step.{Step}
use Rattle.canary_plan.specs.declared.step.Step.TheVariants.{SetWeight, Pause, Analysis}
use Rattle.std.specs.Cmp.Lexicographic.{pointwise}
use Rattle.canary_plan.specs.Plans.{analysis_at}
use Rattle.canary_release.specs.declared.state.ReleaseState.{ReleaseState}
use Rattle.canary_release.specs.declared.state.ReleaseState.TheVariants.{InProgress, Aborted, Done}
use Rattle.canary_release.specs.declared.state.ServiceState.{ServiceState}
use Rattle.canary_release.specs.declared.runs.OpenRun.{OpenRun}
use Rattle.canary_release.specs.declared.runs.Runs.{Runs}
use Rattle.canary_release.specs.Services.{is_in_progress, is_done, is_held, step_of}
use Rattle.canary_release.specs.Evolutions.{Evolution, runs_now}
use Rattle.canary_release.specs.Rules.Entering.{enter}
use Rattle.canary_release.specs.Rules.Passing.{leaves_at, Moves, judged_at, next_move, is_by, move_at, chain_end, followed, pass}
use Rattle.canary_release.specs.Parts.{is_step_run, is_elsewhere, is_astray, is_step_bound, is_background_bound, is_refused, is_bound, is_unbound, is_broken}
use Rattle.canary_release.specs.Stored.{stored_after}
use Rattle.canary_release.proofs.Chains.{going, chain_ends}
use Rattle.canary_release.proofs.PartsLists.{or_left, or_right, any_weaker}
use Rattle.canary_release.proofs.PartsKept.{of_background, has_background, IsWellBound, Unjudged, Fit, unbroken_of}
use Rattle.canary_release.proofs.PartsFresh.{and_left, and_right, Basis, basis, Accepted, no_analysis_at}
use Rattle.canary_release.proofs.PartsReady.{Ready, contradicts, going_not_done}
use Rattle.canary_release.proofs.PartsEntering.{Loose, enters}

-- a release in progress stands on a step before the end

not_same : (b : Bool) → (if b then true else false) ≡ false → b ≡ false
not_same true h = cc h
not_same false h = refl

step_below : (n i : ℕ) (d : Bool) → (nat_lt n i || (if i == n then not d else d)) ≡ false → d ≡ false → i < n
step_below n i d h e =
    let within : nat_lt n i ≡ false = or_left (nat_lt n i) (if i == n then not d else d) h in
    let other : (i == n) ≡ false = not_same (i == n) (subst (λ x. (if i == n then not x else x) ≡ false) e (or_right (nat_lt n i) (if i == n then not d else d) h)) in
    grind (arith, nat_tests)

pub goes_below : (s : ServiceState) (w : Runs) → Fit s w → is_in_progress s.state ≡ true → s.step < length s.strategy.steps
goes_below s w f g = step_below (length s.strategy.steps) s.step (is_done s.state) f.placed (going_not_done s.state g)

-- a release in progress is bound
going_bound : (a u : Bool) (x : ReleaseState) → not (a || (is_done x && u)) ≡ false → is_in_progress x ≡ true → a ≡ true
going_bound true u x h g = refl
going_bound false u InProgress h g = cc h
going_bound false u Aborted h g = cc g
going_bound false u Done h g = cc g

pub bound_going : {w : Runs} (s : ServiceState) → Fit s w → is_in_progress s.state ≡ true → IsWellBound s
bound_going s f g =
    let other : Bool = not (is_bound s || (is_done s.state && is_unbound s)) in
    (going_bound (is_bound s) (is_unbound s) s.state (or_left other (is_refused s.bound) f.bound) g, or_right other (is_refused s.bound) f.bound)

-- if the present step has no analysis, or is held, no step run is open

step_away : (s : ServiceState) (o : Option ℕ) → (is_none (analysis_at s.bound (Some s.step)) || is_held s) ≡ true → is_elsewhere s o ≡ false → is_some o ≡ false
step_away s None away h = refl
step_away s (Some i) away h =
    let here : not (i == s.step) ≡ false = or_left (not (i == s.step)) (is_none (analysis_at s.bound (Some i)) || is_held s) h in
    let same : i ≡ s.step = grind (arith, nat_tests) in
    let none : (is_none (analysis_at s.bound (Some i)) || is_held s) ≡ false = or_right (not (i == s.step)) (is_none (analysis_at s.bound (Some i)) || is_held s) h in
    contradicts (is_none (analysis_at s.bound (Some s.step)) || is_held s) away (subst (λ k. (is_none (analysis_at s.bound (Some k)) || is_held s) ≡ false) same none)

pub no_step_run : (s : ServiceState) (rs : List OpenRun) → (is_none (analysis_at s.bound (Some s.step)) || is_held s) ≡ true → list_any (is_astray s) rs ≡ false → list_any is_step_run rs ≡ false
no_step_run s rs away h = any_weaker (is_astray s) is_step_run (λ r e. step_away s r.step away e) rs h

pub not_begun : (a b h : Bool) → (a && (not b || h)) ≡ false → (a && not b) ≡ false
not_begun true b h e = or_left (not b) h e
not_begun false b h e = refl

-- the next step may be entered
pub next_ready : (s : ServiceState) (w : Runs) → Fit s w → Unjudged w → is_in_progress s.state ≡ true → s.step_hold ≡ false → s.background_hold ≡ false → list_any is_step_run w.open_runs ≡ false → Ready s w (length s.strategy.steps - (s.step + 1))
next_ready s w f u g unheld background_unheld no_step =
    record {
      going = g;
      unheld = unheld;
      background_unheld = background_unheld;
      few = f.few;
      room = subst (λ h. (length s.strategy.steps - (s.step + 1)) + of_background (is_some s.strategy.background) s.background (has_background w.open_runs) h ≤ 1000000 - w.count) background_unheld (f.room g);
      runs = record { numbered = f.numbered; distinct = f.distinct; tallied = f.tallied; same = f.same; unjudged = u };
      one_background = f.one_background;
      no_step = no_step;
      background_run = not_begun (has_background w.open_runs) s.background s.background_hold f.background_run;
      known = f.known;
      bound = bound_going s f g;
    }

pub later : (s : Basis) (t u : ℕ) (c : Evolution) → t ≤ u → Loose s t c → Loose s u c
later s t u c le l = record { steady = l.steady; same = l.same; entered = (let e : c.service.entered ≤ t = l.entered in omega arith); fit = l.fit; unjudged = l.unjudged }

-- a move

-- if the present step is no analysis, none is bound at it
pub not_bound : (s : ServiceState) (step : Step) → step_of s ≡ Some step → ((names : List (List ℕ)) → step ≡ Analysis names → ⊥) → is_bound s ≡ true → is_none (analysis_at s.bound (Some s.step)) ≡ true
not_bound s step e other bound = no_analysis_at s.strategy.steps s.bound.steps s.step step (and_left (pointwise is_step_bound s.strategy.steps s.bound.steps) (is_background_bound s.strategy.background s.bound.background) bound) e other

leaves_none : (s : ServiceState) (o : Option Step) (entered e : ℕ) → step_of s ≡ o → is_bound s ≡ true → leaves_at o entered ≡ Some e → is_none (analysis_at s.bound (Some s.step)) ≡ true
leaves_none s (Some (SetWeight percent)) entered e is bound h = not_bound s (SetWeight percent) is (λ names x. cc x) bound
leaves_none s (Some (Pause seconds)) entered e is bound h = not_bound s (Pause seconds) is (λ names x. cc x) bound
leaves_none s (Some (Analysis names)) entered e is bound h = cc h
leaves_none s None entered e is bound h = cc h

pub not_true : (b : Bool) → not b ≡ true → b ≡ false
not_true true h = cc h
not_true false h = refl

moves_loose : (s : Basis) (t e : ℕ) (c next : Evolution) → Accepted s → Loose s t c → Moves c e next → e ≤ t → Loose s t next
moves_loose s t e c next acc l m le =
    let st : ServiceState = c.service in
    let goes : is_in_progress st.state ≡ true = and_left (is_in_progress st.state) (not (is_held st)) m.0 in
    let free : is_held st ≡ false = not_true (is_held st) (and_right (is_in_progress st.state) (not (is_held st)) m.0) in
    let away : (is_none (analysis_at st.bound (Some st.step)) || is_held st) ≡ true = ap (λ b. b || is_held st) (leaves_none st (step_of st) st.entered e refl (bound_going st l.fit goes).0 m.1) in
    let ready = next_ready st (runs_now c) l.fit l.unjudged goes (or_left st.step_hold st.background_hold free) (or_right st.step_hold st.background_hold free) (no_step_run st (runs_now c).open_runs away l.fit.home) in
    let below : st.step < length st.strategy.steps = goes_below st (runs_now c) l.fit goes in
    let there : Loose (basis st) e (enter c (st.step + 1) e) = enters c (st.step + 1) e (subst Accepted (sym l.same) acc) l.steady (omega arith) ready in
    subst (Loose s t) (sym m.2) (later s e t (enter c (st.step + 1) e) le (subst (λ x. Loose x e (enter c (st.step + 1) e)) l.same there))

chain_loose : (n t : ℕ) (s : Basis) (c : Evolution) → Accepted s → Loose s t c → Loose s t (chain_end n t c)
chain_loose zero t s c acc l = l
chain_loose (suc n) t s c acc l =
    elim (is_by t (next_move c.service))
    as (λ b. is_by t (next_move c.service) ≡ b → Loose s t (elim b [ true ↦ chain_end n t (move_at c (next_move c.service)) | false ↦ c ])) [
      | true ↦ λ e. let g = going c t e in chain_loose n t s (move_at c (next_move c.service)) acc (subst (Loose s t) g.is_next (moves_loose s t g.e c g.next acc l g.moves g.in_time))
      | false ↦ λ e. l
    ] refl

-- the end of passing

last_fits : (s : ServiceState) (w : Runs) (last : ℕ) → Fit s w → Fit (record s { last = last }) w
last_fits s w last f =
    record {
      placed = f.placed;
      few = f.few;
      room = f.room;
      numbered = f.numbered;
      distinct = f.distinct;
      tallied = f.tallied;
      idle = f.idle;
      one_background = f.one_background;
      one_step = f.one_step;
      home = f.home;
      background_run = f.background_run;
      held = f.held;
      known = f.known;
      hold = f.hold;
      bound = f.bound;
      same = f.same;
    }

at_rest : (n t : ℕ) (c : Evolution) → length c.service.strategy.steps ≤ c.service.step + n → is_by t (next_move (chain_end n t c).service) ≡ false
at_rest n t c h =
    let d : Evolution = chain_end n t c in
    let rest = (chain_ends n t c h).2 in
    elim (is_by t (next_move d.service)) as (λ b. is_by t (next_move d.service) ≡ b → b ≡ false) [
      | true ↦ λ e. let g = going d t e in absurd (rest g.e g.next g.moves g.in_time)
      | false ↦ λ e. refl
    ] refl

-- an evolution that is unbroken but for time is unbroken once it is passed on
pub record Whole (s : Basis) (t : ℕ) (c : Evolution) : Type 0 where
  pub loose : Loose s t c
  pub last : c.service.last ≡ t
  pub unbroken : is_broken (stored_after c) ≡ false

pub passes : (s : Basis) (c : Evolution) (t : ℕ) → Accepted s → Loose s (judged_at c.service t) c → Whole s (judged_at c.service t) (pass c t)
passes s c t acc l =
    let at : ℕ = judged_at c.service t in
    let d : Evolution = followed c at in
    let n : ℕ = length c.service.strategy.steps - c.service.step in
    let end' : Loose s at d = chain_loose n at s c acc l in
    let fit = last_fits d.service (runs_now d) at end'.fit in
    record {
      loose = record { steady = end'.steady; same = end'.same; entered = end'.entered; fit = fit; unjudged = end'.unjudged };
      last = refl;
      unbroken = unbroken_of (stored_after (pass c t)) fit end'.unjudged end'.entered (at_rest n at c (omega arith));
    }
