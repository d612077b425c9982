-- Time in two steps is time in one.
use Rattle.std.proofs.Common.{◌≡◌, ℕ, zero, suc, ◌+◌, ◌-◌, ◌≤◌, List, [], ◌∷◌, length, true, false, refl, ap, ◌∙◌, subst, arith}
use Rattle.std.specs.Prelude.{if◌then◌else◌, Option, Some, None, ◌==◌, slice_get, max}
use Rattle.canary_plan.specs.declared.step.Step.{Step}
use Rattle.canary_plan.specs.declared.step.Step.TheVariants.{SetWeight, Pause, Analysis}
use Rattle.canary_release.specs.declared.runs.OpenRun.{OpenRun}
use Rattle.canary_release.specs.Evolutions.{Evolution, with_service_state, tell, runs_now, end_run, end_runs}
use Rattle.canary_plan.specs.declared.line.LineEvent.TheVariants.{Finished}
use Rattle.canary_release.specs.Rules.Entering.{begins_background, begin_background, open_background, enter, done, finish, show_step}
use Rattle.canary_release.specs.Rules.Passing.{Chain, with_last, next_move, is_by, move_at, chain_end, PassesInSteps}
use Rattle.canary_release.proofs.Chains.{chain_ends, rest_is_longest, one_longest}

-- moves look at no last moment

ended_last : (at k : ℕ) (c : Evolution) (rs : List OpenRun) → end_runs at (with_last c k) rs ≡ with_last (end_runs at c rs) k
ended_last at k c [] = refl
ended_last at k c (r ∷ rs) = ended_last at k (end_run at c r) rs

finish_last : (c : Evolution) (k at : ℕ) → finish (with_last c k) at ≡ with_last (finish c at) k
finish_last c k at = ap (λ (d : Evolution). tell (with_service_state d (done d.service)) at (Finished d.service.version)) (ended_last at k c (runs_now c).open_runs)

background_last : (c : Evolution) (k i at : ℕ) → open_background (with_last c k) i at ≡ with_last (open_background c i at) k
background_last c k i at =
    elim (begins_background c.service.strategy.background i c.service.background)
    as (λ b. (let d : Evolution = (if b then begin_background (with_last c k) at else with_last c k) in d) ≡ with_last (if b then begin_background c at else c) k)
    [ true ↦ refl | false ↦ refl ]

show_last : (c : Evolution) (k : ℕ) (s : Option Step) (i at : ℕ) → show_step (with_last c k) s i at ≡ with_last (show_step c s i at) k
show_last c k (Some (SetWeight percent)) i at = refl
show_last c k (Some (Pause None)) i at = refl
show_last c k (Some (Pause (Some seconds))) i at = refl
show_last c k (Some (Analysis names)) i at = refl
show_last c k None i at = refl

enter_last : (c : Evolution) (k i at : ℕ) → enter (with_last c k) i at ≡ with_last (enter c i at) k
enter_last c k i at =
    let there : Evolution = with_service_state c (record c.service { step = i; entered = at }) in
    let step : Option Step = slice_get c.service.strategy.steps i in
    elim (i == length c.service.strategy.steps)
    as (λ b. (let d : Evolution = (if b then finish (with_last there k) at else show_step (open_background (with_last there k) i at) step i at) in d) ≡ with_last (if b then finish there at else show_step (open_background there i at) step i at) k)
    [ true ↦ finish_last there k at | false ↦ ap (λ (d : Evolution). show_step d step i at) (background_last there k i at) ∙ show_last (open_background there i at) k step i at ]

move_last : (c : Evolution) (k : ℕ) (o : Option ℕ) → move_at (with_last c k) o ≡ with_last (move_at c o) k
move_last c k None = refl
move_last c k (Some e) = enter_last c k (c.service.step + 1) e

chain_last : (n u k : ℕ) (c : Evolution) → chain_end n u (with_last c k) ≡ with_last (chain_end n u c) k
chain_last zero u k c = refl
chain_last (suc n) u k c =
    let move : Option ℕ = next_move c.service in
    elim (is_by u move)
    as (λ b. elim b [ true ↦ chain_end n u (move_at (with_last c k) move) | false ↦ with_last c k ] ≡ with_last (elim b [ true ↦ chain_end n u (move_at c move) | false ↦ c ]) k)
    [ true ↦ ap (chain_end n u) (move_last c k move) ∙ chain_last n u k (move_at c move) | false ↦ refl ]

-- chains go on

chain_later : (n t u : ℕ) (c x : Evolution) → t ≤ u → Chain n t c x → Chain n u c x
chain_later zero t u c x le g = g
chain_later (suc n) t u c x le g = (g.0, g.1, g.2, (let by = g.3 in omega arith), chain_later n t u g.1 x le g.4)

chain_join : (k j m u : ℕ) (c x y : Evolution) → m ≡ k + j → Chain k u c x → Chain j u x y → Chain m u c y
chain_join zero j m u c x y is g h =
    let same : j ≡ m = omega arith in
    subst (λ n. Chain n u c y) same (subst (λ (d : Evolution). Chain j u d y) g h)
chain_join (suc k) j zero u c x y is g h = absurd (omega arith)
chain_join (suc k) j (suc m) u c x y is g h = (g.0, g.1, g.2, g.3, chain_join k j m u g.1 x y (omega arith) g.4 h)

end_join : (t u n m : ℕ) (c : Evolution) → t ≤ u → length c.service.strategy.steps ≤ c.service.step + n
    → length (chain_end n t c).service.strategy.steps ≤ (chain_end n t c).service.step + m → chain_end m u (chain_end n t c) ≡ chain_end n u c
end_join t u n m c le first second =
    let x = chain_end n t c in
    let a = chain_ends n t c first in
    let b = chain_ends m u x second in
    let z = chain_ends n u c first in
    let joined = chain_join a.0 b.0 (a.0 + b.0) u c x (chain_end m u x) refl (chain_later a.0 t u c x le a.1) b.1 in
    one_longest (a.0 + b.0) z.0 u c (chain_end m u x) (chain_end n u c) joined (rest_is_longest (a.0 + b.0) u c (chain_end m u x) joined b.2) z.1 (rest_is_longest z.0 u c (chain_end n u c) z.1 z.2)

pub later_of : (t u k : ℕ) → t ≤ u → max u (max t k) ≡ max u k
later_of t u k le = omega arith

pub passes_in_steps : PassesInSteps
passes_in_steps c t u le =
    let k = c.service.last in
    let at = max t k in
    let by = max u k in
    let n = length c.service.strategy.steps - c.service.step in
    let x : Evolution = chain_end n at c in
    let m = length x.service.strategy.steps - x.service.step in
    ap (λ v. with_last (chain_end m v (with_last x at)) v) (later_of t u k le)
    ∙ ap (λ (d : Evolution). with_last d by) (chain_last m by at x)
    ∙ ap (λ (d : Evolution). with_last d by) (end_join at by n m c (omega arith) (omega arith) (omega arith))
