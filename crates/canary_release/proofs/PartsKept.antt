-- What unbroken parts are, fact by fact.
use Rattle.std.proofs.Common.{◌≡◌, ℕ, ◌+◌, ◌-◌, ◌≤◌, List, [], ◌∷◌, length, refl, ap, arith}
use Rattle.std.specs.Prelude.{Bool, true, false, not, ◌&&◌, ◌||◌, nat_lt, if◌then◌else◌, filter, is_some, is_none}
use Rattle.std.specs.List.{list_any}
use Rattle.std.proofs.lemmas.Bool.Decides.{nat_tests}
use Rattle.canary_release.specs.declared.state.ServiceState.{ServiceState}
use Rattle.canary_release.specs.declared.runs.OpenRun.{OpenRun}
use Rattle.canary_release.specs.declared.runs.Runs.{Runs}
use Rattle.canary_release.specs.declared.service.ServiceParts.{ServiceParts}
use Rattle.canary_release.specs.Services.{is_in_progress, is_held}
use Rattle.canary_release.specs.Rules.Passing.{next_move, is_by}
use Rattle.canary_release.specs.Parts.{one_if, is_background_run, is_step_run, has_background_run, runs_wanted, is_misplaced, is_misnumbered, repeats_number, has_wrong_tallies, is_refused, is_bound, is_misbound, has_other_revisions, is_astray, is_judged, is_broken}
use Rattle.canary_release.proofs.PartsLists.{or_left, or_right, neither, and_with}

-- the run numbers of the background: it is there or not, was started or not, is open or not, and is held or not
abbrev pub of_background : Bool → Bool → Bool → Bool → ℕ
of_background there started open' held = if there then one_if (not started) + one_if (not started || (open' || held)) else 0

abbrev pub has_background : List OpenRun → Bool
has_background rs = list_any is_background_run rs

-- the run numbers that the background may still take
abbrev pub background_needs : ServiceState → Runs → ℕ
background_needs s w = of_background (is_some s.strategy.background) s.background (has_background w.open_runs) s.background_hold

-- each analysis is bound, and to such as a strategy is bound to
abbrev pub IsWellBound : ServiceState → Type 0
IsWellBound s = (is_bound s ≡ true) × (is_refused s.bound ≡ false)

-- no open run is judged
abbrev pub Unjudged : Runs → Type 0
Unjudged w = list_any is_judged w.open_runs ≡ false

-- all that makes parts unbroken, but for verdicts and time
pub record Fit (s : ServiceState) (w : Runs) : Type 0 where
  pub placed : is_misplaced s ≡ false
  pub few : w.count ≤ 1000000
  pub room : is_in_progress s.state ≡ true → (length s.strategy.steps - (s.step + 1)) + background_needs s w ≤ 1000000 - w.count
  pub numbered : list_any (is_misnumbered w.count) w.open_runs ≡ false
  pub distinct : repeats_number w.open_runs ≡ false
  pub tallied : list_any has_wrong_tallies w.open_runs ≡ false
  pub idle : is_in_progress s.state ≡ false → w.open_runs ≡ []
  pub one_background : length (filter is_background_run w.open_runs) ≤ 1
  pub one_step : length (filter is_step_run w.open_runs) ≤ 1
  pub home : list_any (is_astray s) w.open_runs ≡ false
  pub background_run : (has_background w.open_runs && (not s.background || s.background_hold)) ≡ false
  pub held : (is_held s && not (is_in_progress s.state)) ≡ false
  pub known : (s.background && is_none s.strategy.background) ≡ false
  pub hold : (s.background_hold && not s.background) ≡ false
  pub bound : is_misbound s ≡ false
  pub same : list_any (has_other_revisions s) w.open_runs ≡ false

-- why parts make no service, one cause after another
abbrev pub causes : ServiceParts → List Bool
causes s =
    let service = s.service in
    let going = is_in_progress service.state in
    let runs = s.runs.open_runs in
    is_misplaced service
    ∷ nat_lt service.last service.entered
    ∷ nat_lt 1000000 s.runs.count
    ∷ (going && nat_lt (1000000 - s.runs.count) (runs_wanted s))
    ∷ list_any (is_misnumbered s.runs.count) runs
    ∷ repeats_number runs
    ∷ list_any has_wrong_tallies runs
    ∷ (not going && nat_lt 0 (length runs))
    ∷ nat_lt 1 (length (filter is_background_run runs))
    ∷ nat_lt 1 (length (filter is_step_run runs))
    ∷ list_any (is_astray service) runs
    ∷ (has_background_run s && (not service.background || service.background_hold))
    ∷ (is_held service && not going)
    ∷ (service.background && is_none service.strategy.background)
    ∷ (service.background_hold && not service.background)
    ∷ list_any is_judged runs
    ∷ is_by service.last (next_move service)
    ∷ is_misbound service
    ∷ list_any (has_other_revisions service) runs
    ∷ []

abbrev pub AreFalse : List Bool → Type 0
AreFalse [] = Unit {0}
AreFalse (b ∷ bs) = (b ≡ false) × AreFalse bs

all_false : (bs : List Bool) → list_any (λ b. b) bs ≡ false → AreFalse bs
all_false [] h = tt
all_false (b ∷ bs) h = (or_left b (list_any (λ x. x) bs) h, all_false bs (or_right b (list_any (λ x. x) bs) h))

none_true : (bs : List Bool) → AreFalse bs → list_any (λ b. b) bs ≡ false
none_true [] h = refl
none_true (b ∷ bs) h = neither b (list_any (λ x. x) bs) h.0 (none_true bs h.1)

pub not_below : (a b : ℕ) → nat_lt a b ≡ false → b ≤ a
not_below a b h = grind (arith, nat_tests)

pub at_least : (a b : ℕ) → b ≤ a → nat_lt a b ≡ false
at_least a b h = grind (arith, nat_tests)

if_going : (g : Bool) (a b : ℕ) → (g && nat_lt a b) ≡ false → g ≡ true → b ≤ a
if_going g a b h e = not_below a b (and_with g (nat_lt a b) h e)

room_if : (g : Bool) (a b : ℕ) → (g ≡ true → b ≤ a) → (g && nat_lt a b) ≡ false
room_if true a b h = at_least a b (h refl)
room_if false a b h = refl

if_idle : (g : Bool) (rs : List OpenRun) → (not g && nat_lt 0 (length rs)) ≡ false → g ≡ false → rs ≡ []
if_idle g [] h e = refl
if_idle g (r ∷ rs) h e =
    let none : nat_lt 0 (length (r ∷ rs)) ≡ false = and_with (not g) (nat_lt 0 (length (r ∷ rs))) h (ap not e) in
    let few : length (r ∷ rs) ≤ 0 = not_below 0 (length (r ∷ rs)) none in
    absurd (omega arith)

idle_if : (g : Bool) (rs : List OpenRun) → (g ≡ false → rs ≡ []) → (not g && nat_lt 0 (length rs)) ≡ false
idle_if true rs h = refl
idle_if false rs h = rw (h refl) refl

pub fit_of : (s : ServiceParts) → is_broken s ≡ false → Fit s.service s.runs × Unjudged s.runs × (s.service.entered ≤ s.service.last)
fit_of s h =
    let f = all_false (causes s) h in
    let a = f.1.1.1 in
    let b = a.1.1.1.1 in
    let d = b.1.1.1.1 in (
      record {
        placed = f.0;
        few = not_below 1000000 s.runs.count f.1.1.0;
        room = if_going (is_in_progress s.service.state) (1000000 - s.runs.count) (runs_wanted s) a.0;
        numbered = a.1.0;
        distinct = a.1.1.0;
        tallied = a.1.1.1.0;
        idle = if_idle (is_in_progress s.service.state) s.runs.open_runs b.0;
        one_background = not_below 1 (length (filter is_background_run s.runs.open_runs)) b.1.0;
        one_step = not_below 1 (length (filter is_step_run s.runs.open_runs)) b.1.1.0;
        home = b.1.1.1.0;
        background_run = d.0;
        held = d.1.0;
        known = d.1.1.0;
        hold = d.1.1.1.0;
        bound = d.1.1.1.1.1.1.0;
        same = d.1.1.1.1.1.1.1.0;
      },
      d.1.1.1.1.0,
      not_below s.service.last s.service.entered f.1.0,
    )

pub unbroken_of : (s : ServiceParts) → Fit s.service s.runs → Unjudged s.runs → s.service.entered ≤ s.service.last → is_by s.service.last (next_move s.service) ≡ false → is_broken s ≡ false
unbroken_of s f u le rest =
    none_true (causes s) (
      f.placed,
      (
        at_least s.service.last s.service.entered le,
        (
          at_least 1000000 s.runs.count f.few,
          (
            room_if (is_in_progress s.service.state) (1000000 - s.runs.count) (runs_wanted s) f.room,
            (
              f.numbered,
              (
                f.distinct,
                (
                  f.tallied,
                  (
                    idle_if (is_in_progress s.service.state) s.runs.open_runs f.idle,
                    (
                      at_least 1 (length (filter is_background_run s.runs.open_runs)) f.one_background,
                      (
                        at_least 1 (length (filter is_step_run s.runs.open_runs)) f.one_step,
                        (f.home, (f.background_run, (f.held, (f.known, (f.hold, (u, (rest, (f.bound, (f.same, tt))))))))),
                      ),
                    ),
                  ),
                ),
              ),
            ),
          ),
        ),
      ),
    )
