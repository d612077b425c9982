-- What entering and passing leave alone.
use Rattle.std.proofs.Common.{◌≡◌, ℕ, zero, suc, ◌+◌, ◌-◌, List, [], ◌∷◌, refl, ◌∙◌}
use Rattle.std.specs.Prelude.{true, false, if◌then◌else◌, Option, Some, None, ◌==◌, length, slice_get}
use Rattle.canary_plan.specs.declared.step.Step.{Step}
use Rattle.canary_plan.specs.declared.step.Step.TheVariants.{SetWeight, Pause, Analysis}
use Rattle.canary_release.specs.declared.state.ServiceState.{ServiceState}
use Rattle.canary_release.specs.declared.effect.Recorded.{Recorded}
use Rattle.canary_release.specs.declared.effect.Effect.TheVariants.{MeasurementRecorded}
use Rattle.canary_release.specs.declared.runs.OpenRun.{OpenRun}
use Rattle.canary_release.specs.Evolutions.{Evolution, with_service_state, apply_effect, runs_now, end_run, end_runs}
use Rattle.canary_release.specs.Rules.Reports.{record_all}
use Rattle.canary_release.specs.Rules.Passing.{next_move, is_by, move_at, chain_end, pass, judged_at}
use Rattle.canary_release.specs.Rules.Entering.{begins_background, begin_background, open_background, finish, show_step, enter}

-- ending runs changes nothing of how a service stands
pub ended_service_state : (at : ℕ) (c : Evolution) (rs : List OpenRun) → (end_runs at c rs).service ≡ c.service
ended_service_state at c [] = refl
ended_service_state at c (r ∷ rs) = ended_service_state at (end_run at c r) rs

-- nor does recording measurements
pub recorded_service_state : (c : Evolution) (xs : List Recorded) → (record_all c xs).service ≡ c.service
recorded_service_state c [] = refl
recorded_service_state c (x ∷ xs) = recorded_service_state (apply_effect c (MeasurementRecorded x)) xs

-- the same strategy, the same step, the same last moment, and bound as before
abbrev SameStep : ServiceState → ServiceState → Type 0
SameStep s u = (u.strategy ≡ s.strategy) × (u.step ≡ s.step) × (u.last ≡ s.last) × (u.bound ≡ s.bound)

finished_keeps : (c : Evolution) (at : ℕ) → SameStep c.service (finish c at).service
finished_keeps c at = let e = ended_service_state at c (runs_now c).open_runs in rw e (refl, refl, refl, refl)

opened_keeps : (c : Evolution) (i at : ℕ) → SameStep c.service (open_background c i at).service
opened_keeps c i at =
    elim (begins_background c.service.strategy.background i c.service.background)
    as (λ b. let d : Evolution = (if b then begin_background c at else c) in SameStep c.service d.service)
    [ true ↦ (refl, refl, refl, refl) | false ↦ (refl, refl, refl, refl) ]

shown_keeps : (c : Evolution) (s : Option Step) (i at : ℕ) → (show_step c s i at).service ≡ c.service
shown_keeps c (Some (SetWeight percent)) i at = refl
shown_keeps c (Some (Pause None)) i at = refl
shown_keeps c (Some (Pause (Some seconds))) i at = refl
shown_keeps c (Some (Analysis names)) i at = refl
shown_keeps c None i at = refl

-- it stands at step i, with the same strategy and last moment, and bound as before
pub enter_keeps : (c : Evolution) (i at : ℕ) → ((enter c i at).service.strategy ≡ c.service.strategy) × ((enter c i at).service.step ≡ i) × ((enter c i at).service.last ≡ c.service.last) × ((enter c i at).service.bound ≡ c.service.bound)
enter_keeps c i at =
    let there : Evolution = with_service_state c (record c.service { step = i; entered = at }) in
    let opened = opened_keeps there i at in
    let shown = shown_keeps (open_background there i at) (slice_get c.service.strategy.steps i) i at in
    elim (i == length c.service.strategy.steps)
    as (λ b. let r : Evolution = (if b then finish there at else show_step (open_background there i at) (slice_get c.service.strategy.steps i) i at) in (r.service.strategy ≡ c.service.strategy) × (r.service.step ≡ i) × (r.service.last ≡ c.service.last) × (r.service.bound ≡ c.service.bound))
    [ true ↦ finished_keeps there at | false ↦ rw shown opened ]

-- the same strategy, and bound as before
abbrev SameBound : ServiceState → ServiceState → Type 0
SameBound s u = (u.strategy ≡ s.strategy) × (u.bound ≡ s.bound)

moved_keeps : (c : Evolution) (o : Option ℕ) → SameBound c.service (move_at c o).service
moved_keeps c None = (refl, refl)
moved_keeps c (Some e) = let h = enter_keeps c (c.service.step + 1) e in (h.0, h.3)

chained_keeps : (n t : ℕ) (c : Evolution) → SameBound c.service (chain_end n t c).service
chained_keeps zero t c = (refl, refl)
chained_keeps (suc n) t c =
    let move : Option ℕ = next_move c.service in
    let moved = moved_keeps c move in
    let rest = chained_keeps n t (move_at c move) in
    elim (is_by t move)
    as (λ b. let d : Evolution = elim b [ true ↦ chain_end n t (move_at c move) | false ↦ c ] in SameBound c.service d.service)
    [ true ↦ (rest.0 ∙ moved.0, rest.1 ∙ moved.1) | false ↦ (refl, refl) ]

pub passed_keeps : (c : Evolution) (t : ℕ) → ((pass c t).service.strategy ≡ c.service.strategy) × ((pass c t).service.bound ≡ c.service.bound)
passed_keeps c t = chained_keeps (length c.service.strategy.steps - c.service.step) (judged_at c.service t) c
