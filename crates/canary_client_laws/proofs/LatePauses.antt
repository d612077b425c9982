-- The law of time does not hold if a pause ends at the moment of the request, and not at its own.
use Rattle.std.proofs.Common.{◌≡◌, ℕ, zero, suc, ◌-◌, ◌≤◌, [], ◌∷◌, length, true, false, ap, arith}
use Rattle.std.specs.Prelude.{if◌then◌else◌, Some, None}
use Rattle.canary_plan.specs.declared.step.Step.TheVariants.{Pause}
use Rattle.canary_release.specs.declared.state.ReleaseState.TheVariants.{InProgress}
use Rattle.canary_release.specs.Evolutions.{Evolution, evolution_from}
use Rattle.canary_release.specs.Desks.{new_service_state}
use Rattle.canary_release.specs.Rules.Passing.{next_move, is_by, move_at, judged_at, with_last}
use Rattle.canary_release.specs.Services.{step_of, is_pause}
use Rattle.canary_release.specs.Watching.{no_runs}
use Rattle.canary_release.proofs.Stories.{web, v1}

-- passing as it is defined, but that a pause ends at t
pub late_end : ℕ → ℕ → Evolution → Evolution
late_end zero t c = c
late_end (suc n) t c =
    elim (is_by t (next_move c.service))
    [ true ↦ late_end n t (move_at c (if is_pause (step_of c.service) then Some t else next_move c.service)) | false ↦ c ]

pub late_pass : Evolution → ℕ → Evolution
late_pass c t =
    let at = judged_at c.service t in
    with_last (late_end (length c.service.strategy.steps - c.service.step) at c) at

-- the law of time, of such passing
abbrev pub LatePassesInSteps : Type 0
LatePassesInSteps = (c : Evolution) (t u : ℕ) → t ≤ u → late_pass (late_pass c t) u ≡ late_pass c u

-- a release that is at a pause of 10 seconds from moment 0 on, and then at one without end
waiting : Evolution
waiting =
    evolution_from (record (new_service_state (record { name = web; version = v1; steps = Pause (Some 10) ∷ Pause None ∷ []; background = None }) 0) { state = InProgress; step = 0 }) (λ effects. no_runs)

-- passed to 20 and then to 30, it entered the second pause at 20; passed to 30 at once, at 30
pub late_passing_is_not_in_steps : LatePassesInSteps → ⊥
unfolding late_end late_pass waiting
late_passing_is_not_in_steps law =
    let entered : 20 ≡ 30 = ap (λ (c : Evolution). c.service.entered) (law waiting 20 30 (omega arith)) in
    omega (arith, entered)
