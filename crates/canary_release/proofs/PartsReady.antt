-- What makes parts ready for a step to be entered, and what they are once it is.
use Rattle.std.proofs.Common.{◌≡◌, ℕ, ◌+◌, ◌-◌, ◌≤◌, ◌<◌, List, [], ◌∷◌, ◌++◌, length, refl, ap, sym, arith, subst}
use Rattle.std.specs.Prelude.{Bool, true, false, not, ◌&&◌, ◌||◌, ◌==◌, nat_lt, nat_le, if◌then◌else◌, filter, is_some, is_none, Option, Some, None}
use Rattle.std.specs.List.{list_any}
use Rattle.std.proofs.lemmas.Bool.Decides.{nat_tests}
use Rattle.canary_plan.specs.declared.service.Background.{Background}
use Rattle.canary_plan.specs.declared.bound.BoundParts.{BoundParts}
use Rattle.canary_plan.specs.Plans.{analysis_at}
use Rattle.canary_release.specs.declared.state.ReleaseState.{ReleaseState}
use Rattle.canary_release.specs.declared.state.ReleaseState.TheVariants.{InProgress, Aborted, Done}
use Rattle.canary_release.specs.declared.state.ServiceState.{ServiceState}
use Rattle.canary_release.specs.declared.runs.OpenRun.{OpenRun}
use Rattle.canary_release.specs.declared.runs.Runs.{Runs}
use Rattle.canary_release.specs.Services.{is_in_progress, is_done, is_held}
use Rattle.canary_release.specs.Evolutions.{has_number}
use Rattle.canary_release.specs.Rules.Entering.{begins_background}
use Rattle.canary_release.specs.Parts.{is_background_run, is_step_run, is_misnumbered, repeats_number, has_wrong_tallies, is_bound_otherwise, is_refused, is_bound, is_unbound, is_judged, is_elsewhere, is_astray}
use Rattle.canary_release.proofs.PartsLists.{any_weaker, any_push, any_push_other, few_push_other, few_push_first, few_none, repeats_push, and_false, or_left, or_right, neither}
use Rattle.canary_release.proofs.PartsKept.{of_background, has_background, IsWellBound, Unjudged, Fit}
use Rattle.canary_release.proofs.PartsFresh.{HasAnalysis, Accepted, basis, new_run, new_fits, new_is_same, new_is_open, background_analysis}

-- open runs: numbered, each number once, with a tally for each metric, of the revisions that are
-- bound, and not judged
pub record AreRuns (b : BoundParts) (w : Runs) : Type 0 where
  pub numbered : list_any (is_misnumbered w.count) w.open_runs ≡ false
  pub distinct : repeats_number w.open_runs ≡ false
  pub tallied : list_any has_wrong_tallies w.open_runs ≡ false
  pub same : list_any (λ (r : OpenRun). is_bound_otherwise (analysis_at b r.step) r.analysis) w.open_runs ≡ false
  pub unjudged : list_any is_judged w.open_runs ≡ false

-- in progress, not held, with no step run, and with so many run numbers left beside those of the background
pub record Ready (s : ServiceState) (w : Runs) (need : ℕ) : Type 0 where
  pub going : is_in_progress s.state ≡ true
  pub unheld : s.step_hold ≡ false
  pub background_unheld : s.background_hold ≡ false
  pub few : w.count ≤ 1000000
  pub room : need + of_background (is_some s.strategy.background) s.background (has_background w.open_runs) false ≤ 1000000 - w.count
  pub runs : AreRuns s.bound w
  pub one_background : length (filter is_background_run w.open_runs) ≤ 1
  pub no_step : list_any is_step_run w.open_runs ≡ false
  pub background_run : (has_background w.open_runs && not s.background) ≡ false
  pub known : (s.background && is_none s.strategy.background) ≡ false
  pub bound : IsWellBound s

-- one run more is open
abbrev pub with_new : BoundParts → Runs → Option ℕ → ℕ → Runs
with_new b w step at = record { count = w.count + 1; open_runs = w.open_runs ++ new_run b (w.count + 1) step at ∷ [] }

misnumbered_more : (n k : ℕ) → (k == 0 || nat_lt n k) ≡ false → (k == 0 || nat_lt (n + 1) k) ≡ false
misnumbered_more n k h = neither (k == 0) (nat_lt (n + 1) k) (or_left (k == 0) (nat_lt n k) h) (let below = or_right (k == 0) (nat_lt n k) h in grind (arith, nat_tests))

numbered_next : (n : ℕ) → (n + 1 == 0 || nat_lt (n + 1) (n + 1)) ≡ false
numbered_next n = neither (n + 1 == 0) (nat_lt (n + 1) (n + 1)) (grind (arith, nat_tests)) (grind (arith, nat_tests))

not_next : (n k : ℕ) → (k == 0 || nat_lt n k) ≡ false → (k == n + 1) ≡ false
not_next n k h = let below = or_right (k == 0) (nat_lt n k) h in grind (arith, nat_tests)

more_runs : (b : BoundParts) (w : Runs) (step : Option ℕ) (at : ℕ) → HasAnalysis b step → AreRuns b w → AreRuns b (with_new b w step at)
more_runs b w step at has a =
    let new : OpenRun = new_run b (w.count + 1) step at in
    record {
      numbered = any_push (is_misnumbered (w.count + 1)) w.open_runs new (any_weaker (is_misnumbered w.count) (is_misnumbered (w.count + 1)) (λ r h. misnumbered_more w.count r.number h) w.open_runs a.numbered) (numbered_next w.count);
      distinct = repeats_push w.open_runs new a.distinct (any_weaker (is_misnumbered w.count) (has_number (w.count + 1)) (λ r h. not_next w.count r.number h) w.open_runs a.numbered);
      tallied = any_push has_wrong_tallies w.open_runs new a.tallied (new_fits b (w.count + 1) step at);
      same = any_push (λ (r : OpenRun). is_bound_otherwise (analysis_at b r.step) r.analysis) w.open_runs new a.same (new_is_same b (w.count + 1) step at has);
      unjudged = any_push is_judged w.open_runs new a.unjudged (new_is_open b (w.count + 1) step at has);
    }

-- the background run begins

pub record Begins (o : Option Background) (started : Bool) : Type 0 where
  pub background : Background
  pub is : o ≡ Some background
  pub new : started ≡ false

not_started : (a b : Bool) → (a && not b) ≡ true → b ≡ false
not_started true true h = cc h
not_started true false h = refl
not_started false b h = cc h

pub begins : (o : Option Background) (i : ℕ) (started : Bool) → begins_background o i started ≡ true → Begins o started
begins None i started h = cc h
begins (Some b) i started h = record { background = b; is = refl; new = not_started (nat_le b.starting_step i) started h }

room_begun : (need count : ℕ) (there started open' then' : Bool) → there ≡ true → started ≡ false → count ≤ 1000000 → need + of_background there started open' false ≤ 1000000 - count → need + of_background there true then' false ≤ 1000000 - (count + 1)
room_begun need count false started open' then' e f few h = cc e
room_begun need count true true open' then' e f few h = cc f
room_begun need count true false open' true e f few h = omega arith
room_begun need count true false open' false e f few h = omega arith

few_begun : (need count : ℕ) (there started open' : Bool) → there ≡ true → started ≡ false → count ≤ 1000000 → need + of_background there started open' false ≤ 1000000 - count → count + 1 ≤ 1000000
few_begun need count false started open' e f few h = cc e
few_begun need count true true open' e f few h = cc f
few_begun need count true false open' e f few h = omega arith

not_open : (a b : Bool) → (a && not b) ≡ false → b ≡ false → a ≡ false
not_open true true h e = cc e
not_open true false h e = cc h
not_open false b h e = refl

pub ready_begun : (s : ServiceState) (w : Runs) (need at : ℕ) → Accepted (basis s) → Begins s.strategy.background s.background → Ready s w need → Ready (record s { background = true }) (with_new s.bound w None at) need
ready_begun s w need at acc b r =
    let new : OpenRun = new_run s.bound (w.count + 1) None at in
    let there : is_some s.strategy.background ≡ true = ap is_some b.is in
    let none : has_background w.open_runs ≡ false = not_open (has_background w.open_runs) s.background r.background_run b.new in
    record {
      going = r.going;
      unheld = r.unheld;
      background_unheld = r.background_unheld;
      few = few_begun need w.count (is_some s.strategy.background) s.background (has_background w.open_runs) there b.new r.few r.room;
      room = room_begun need w.count (is_some s.strategy.background) s.background (has_background w.open_runs) (has_background (w.open_runs ++ new ∷ [])) there b.new r.few r.room;
      runs = more_runs s.bound w None at (background_analysis s b.background acc r.bound.0 b.is) r.runs;
      one_background = few_push_first is_background_run w.open_runs new none;
      no_step = any_push is_step_run w.open_runs new r.no_step refl;
      background_run = and_false (has_background (w.open_runs ++ new ∷ [])) false refl;
      known = ap is_none b.is;
      bound = r.bound;
    }

-- a step before the end is shown

pub going_not_done : (x : ReleaseState) → is_in_progress x ≡ true → is_done x ≡ false
going_not_done InProgress h = refl
going_not_done Aborted h = refl
going_not_done Done h = cc h

pub placed_below : (n i : ℕ) (d : Bool) → i < n → d ≡ false → (nat_lt n i || (if i == n then not d else d)) ≡ false
placed_below n i d h e =
    let below : nat_lt n i ≡ false = grind (arith, nat_tests) in
    let other : (i == n) ≡ false = grind (arith, nat_tests) in
    rw (below, other) e

pub placed_end : (n i : ℕ) (d : Bool) → i ≡ n → d ≡ true → (nat_lt n i || (if i == n then not d else d)) ≡ false
placed_end n i d h e =
    let below : nat_lt n i ≡ false = grind (arith, nat_tests) in
    let same : (i == n) ≡ true = grind (arith, nat_tests) in
    rw (below, same, e) refl

elsewhere_none : (s : ServiceState) (step : Option ℕ) → is_some step ≡ false → is_elsewhere s step ≡ false
elsewhere_none s None h = refl
elsewhere_none s (Some i) h = cc h

pub none_astray : (s : ServiceState) (rs : List OpenRun) → list_any is_step_run rs ≡ false → list_any (is_astray s) rs ≡ false
none_astray s rs h = any_weaker is_step_run (is_astray s) (λ r e. elsewhere_none s r.step e) rs h

unheld_run : (a b h : Bool) → (a && not b) ≡ false → h ≡ false → (a && (not b || h)) ≡ false
unheld_run true true h e f = f
unheld_run true false h e f = cc e
unheld_run false b h e f = refl

pub contradicts : {A : Type 0} (b : Bool) → b ≡ true → b ≡ false → A
contradicts true g h = cc h
contradicts false g h = cc g

pub held_going : (h g : Bool) → g ≡ true → (h && not g) ≡ false
held_going h g e = rw e (and_false h false refl)

unheld_hold : (h b : Bool) → h ≡ false → (h && not b) ≡ false
unheld_hold h b e = rw e refl

room_after : (n i x count : ℕ) → (n - i) + x ≤ 1000000 - count → (n - (i + 1)) + x ≤ 1000000 - count
room_after n i x count h = omega arith

room_opened : (n i x count : ℕ) → i < n → (n - i) + x ≤ 1000000 - count → (n - (i + 1)) + x ≤ 1000000 - (count + 1)
room_opened n i x count e h = omega arith

few_opened : (n i x count : ℕ) → i < n → (n - i) + x ≤ 1000000 - count → count + 1 ≤ 1000000
few_opened n i x count e h = omega arith

pub not_misbound : (bound unbound refused : Bool) → (bound ≡ true) × (refused ≡ false) → (not (bound || unbound) || refused) ≡ false
not_misbound bound unbound refused h = rw (h.0, h.1) refl

abbrev left : ServiceState → Runs → Bool → ℕ
left s w held = of_background (is_some s.strategy.background) s.background (has_background w.open_runs) held

pub settled : (s : ServiceState) (w : Runs) → s.step < length s.strategy.steps → Ready s w (length s.strategy.steps - s.step) → Fit s w
settled s w below r =
    record {
      placed = placed_below (length s.strategy.steps) s.step (is_done s.state) below (going_not_done s.state r.going);
      few = r.few;
      room = λ g. rw r.background_unheld (room_after (length s.strategy.steps) s.step (left s w false) w.count r.room);
      numbered = r.runs.numbered;
      distinct = r.runs.distinct;
      tallied = r.runs.tallied;
      idle = λ i. contradicts (is_in_progress s.state) r.going i;
      one_background = r.one_background;
      one_step = few_none is_step_run w.open_runs r.no_step;
      home = none_astray s w.open_runs r.no_step;
      background_run = unheld_run (has_background w.open_runs) s.background s.background_hold r.background_run r.background_unheld;
      held = held_going (is_held s) (is_in_progress s.state) r.going;
      known = r.known;
      hold = unheld_hold s.background_hold s.background r.background_unheld;
      bound = not_misbound (is_bound s) (is_done s.state && is_unbound s) (is_refused s.bound) r.bound;
      same = r.runs.same;
    }

here : (i : ℕ) (none held : Bool) → none ≡ false → held ≡ false → (not (i == i) || (none || held)) ≡ false
here i none held e h = let same : (i == i) ≡ true = grind (arith, nat_tests) in rw (same, e, h) refl

pub settled_open : (s : ServiceState) (w : Runs) (at : ℕ) → s.step < length s.strategy.steps → HasAnalysis s.bound (Some s.step) → Ready s w (length s.strategy.steps - s.step) → Fit s (with_new s.bound w (Some s.step) at) × Unjudged (with_new s.bound w (Some s.step) at)
settled_open s w at below has r =
    let new : OpenRun = new_run s.bound (w.count + 1) (Some s.step) at in
    let runs = more_runs s.bound w (Some s.step) at has r.runs in
    let same : has_background (w.open_runs ++ new ∷ []) ≡ has_background w.open_runs = any_push_other is_background_run w.open_runs new refl in
    let unheld : is_held s ≡ false = neither s.step_hold s.background_hold r.unheld r.background_unheld in (
      record {
        placed = placed_below (length s.strategy.steps) s.step (is_done s.state) below (going_not_done s.state r.going);
        few = few_opened (length s.strategy.steps) s.step (left s w false) w.count below r.room;
        room = λ g. rw (r.background_unheld, same) (room_opened (length s.strategy.steps) s.step (left s w false) w.count below r.room);
        numbered = runs.numbered;
        distinct = runs.distinct;
        tallied = runs.tallied;
        idle = λ i. contradicts (is_in_progress s.state) r.going i;
        one_background = subst (λ n. n ≤ 1) (sym (few_push_other is_background_run w.open_runs new refl)) r.one_background;
        one_step = few_push_first is_step_run w.open_runs new r.no_step;
        home = any_push (is_astray s) w.open_runs new (none_astray s w.open_runs r.no_step) (here s.step (is_none (analysis_at s.bound (Some s.step))) (is_held s) (ap is_none has.found) unheld);
        background_run = rw same (unheld_run (has_background w.open_runs) s.background s.background_hold r.background_run r.background_unheld);
        held = held_going (is_held s) (is_in_progress s.state) r.going;
        known = r.known;
        hold = unheld_hold s.background_hold s.background r.background_unheld;
        bound = not_misbound (is_bound s) (is_done s.state && is_unbound s) (is_refused s.bound) r.bound;
        same = runs.same;
      },
      runs.unjudged,
    )
