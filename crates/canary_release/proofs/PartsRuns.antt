-- What is tracked, one thing after another; what the runs are once all are ended.
use Rattle.std.proofs.Common.{◌≡◌, ℕ, List, [], ◌∷◌, ◌++◌, refl, ap, sym, ◌∙◌, arith}
use Rattle.std.specs.Prelude.{Bool, true, false, cond, not, ◌&&◌, ◌==◌, filter}
use Rattle.std.proofs.lemmas.Bool.Decides.{nat_tests}
use Rattle.canary_plan.specs.declared.line.LineEvent.{LineEvent}
use Rattle.canary_release.specs.declared.effect.Effect.{Effect}
use Rattle.canary_release.specs.declared.effect.Effect.TheVariants.{LineAdded}
use Rattle.canary_release.specs.declared.runs.OpenRun.{OpenRun}
use Rattle.canary_release.specs.declared.runs.Runs.{Runs}
use Rattle.canary_release.specs.Watching.{is_other, effect_applied, after_all}
use Rattle.canary_release.specs.Evolutions.{Evolution, RunView, apply_effect, tell, runs_now, end_run, end_runs, end_open_runs}

-- one effect more is one thing more that happens
abbrev pub Steady : RunView → Type 0
Steady w = (xs : List Effect) (x : Effect) → w (xs ++ x ∷ []) ≡ effect_applied (w xs) x

pub steady_kept : (kept : Runs) → Steady (after_all kept)
steady_kept kept [] x = refl
steady_kept kept (y ∷ ys) x = steady_kept (effect_applied kept y) ys x

-- these runs are taken away, one after another
abbrev pub removed : List OpenRun → List OpenRun → List OpenRun
removed [] ws = ws
removed (r ∷ rs) ws = removed rs (filter (is_other r.number) ws)

abbrev pub both : (OpenRun → Bool) → (OpenRun → Bool) → OpenRun → Bool
both p q r = p r && q r

filter_twice : (p q : OpenRun → Bool) (rs : List OpenRun) → filter q (filter p rs) ≡ filter (both p q) rs
filter_twice p q [] = refl
filter_twice p q (r ∷ rs) =
    let rest = filter_twice p q rs in
    elim (p r) as (λ b. filter q (cond b (r ∷ filter p rs) (filter p rs)) ≡ cond (b && q r) (r ∷ filter (both p q) rs) (filter (both p q) rs)) [
      | true ↦ elim (q r) as (λ b. cond b (r ∷ filter q (filter p rs)) (filter q (filter p rs)) ≡ cond b (r ∷ filter (both p q) rs) (filter (both p q) rs)) [ true ↦ ap (λ xs. r ∷ xs) rest | false ↦ rest ]
      | false ↦ rest
    ]

same_number : (n : ℕ) → (n == n) ≡ true
same_number n = grind (arith, nat_tests)

not_itself : (b c : Bool) → c ≡ true → (b && not c) ≡ false
not_itself true c h = rw h refl
not_itself false c h = refl

removed_parts : (p : OpenRun → Bool) (rs : List OpenRun) → removed rs (filter p rs) ≡ []
removed_parts p [] = refl
removed_parts p (r ∷ rs) =
    let q : OpenRun → Bool = both p (is_other r.number) in
    let gone : q r ≡ false = not_itself (p r) (r.number == r.number) (same_number r.number) in
    let left : filter q (r ∷ rs) ≡ filter q rs = ap (λ b. cond b (r ∷ filter q rs) (filter q rs)) gone in
    ap (removed rs) (filter_twice p (is_other r.number) (r ∷ rs) ∙ left) ∙ removed_parts q rs

all_kept : (rs : List OpenRun) → filter (λ r. true) rs ≡ rs
all_kept [] = refl
all_kept (r ∷ rs) = ap (λ xs. r ∷ xs) (all_kept rs)

removed_all : (rs : List OpenRun) → removed rs rs ≡ []
removed_all rs = ap (removed rs) (sym (all_kept rs)) ∙ removed_parts (λ r. true) rs

abbrev pub with_open : Runs → List OpenRun → Runs
with_open w rs = record { count = w.count; open_runs = rs }

pub ended_watch : (at : ℕ) (c : Evolution) (rs : List OpenRun) → (end_runs at c rs).watch ≡ c.watch
ended_watch at c [] = refl
ended_watch at c (r ∷ rs) = ended_watch at (end_run at c r) rs

-- a line changes no run
pub told_runs : (c : Evolution) (at : ℕ) (event : LineEvent) → Steady c.watch → runs_now (tell c at event) ≡ runs_now c
told_runs c at event steady = steady c.effects (LineAdded (record { moment = at; event = event }))

pub happened_runs : (c : Evolution) (x : Effect) → Steady c.watch → runs_now (apply_effect c x) ≡ effect_applied (runs_now c) x
happened_runs c x steady = steady c.effects x

ended_one : (at : ℕ) (c : Evolution) (r : OpenRun) → Steady c.watch → runs_now (end_run at c r) ≡ with_open (runs_now c) (filter (is_other r.number) (runs_now c).open_runs)
ended_one at c r steady = simp steady

ended_runs : (at : ℕ) (c : Evolution) (rs : List OpenRun) → Steady c.watch → runs_now (end_runs at c rs) ≡ with_open (runs_now c) (removed rs (runs_now c).open_runs)
ended_runs at c [] steady = refl
ended_runs at c (r ∷ rs) steady = ended_runs at (end_run at c r) rs steady ∙ ap (λ (w : Runs). with_open w (removed rs w.open_runs)) (ended_one at c r steady)

-- once all are ended, none is open
pub none_open : (c : Evolution) (at : ℕ) → Steady c.watch → runs_now (end_open_runs c at) ≡ with_open (runs_now c) []
none_open c at steady = ended_runs at c (runs_now c).open_runs steady ∙ ap (with_open (runs_now c)) (removed_all (runs_now c).open_runs)
