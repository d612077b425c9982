-- A service keeps its strategy as time passes.
use Rattle.std.proofs.Common.{◌≡◌, ℕ, zero, suc, List, [], ◌∷◌, refl, ◌∙◌}
use Rattle.std.specs.Prelude.{true, false, if◌then◌else◌, Option, Some, None, ◌==◌, length, slice_get}
use Rattle.canary_plan.specs.declared.step.Step.{Step}
use Rattle.canary_plan.specs.declared.step.Step.TheVariants.{SetWeight, Pause, Analysis}
use Rattle.canary_release.specs.declared.runs.OpenRun.{OpenRun}
use Rattle.canary_release.specs.Evolutions.{Evolution, with_service_state, runs_now, end_run, end_runs}
use Rattle.canary_release.specs.Rules.Entering.{begins_background, begin_background, open_background, finish, show_step, enter}
use Rattle.canary_release.specs.Rules.Passing.{next_move, is_by, move_at, chain_end, judged_at, pass}

ended : (at : ℕ) (c : Evolution) (rs : List OpenRun) → (end_runs at c rs).service ≡ c.service
ended at c [] = refl
ended at c (r ∷ rs) = ended at (end_run at c r) rs

finished : (c : Evolution) (at : ℕ) → (finish c at).service.strategy ≡ c.service.strategy
finished c at = let e = ended at c (runs_now c).open_runs in rw e refl

opened : (c : Evolution) (i at : ℕ) → (open_background c i at).service.strategy ≡ c.service.strategy
opened c i at =
    elim (begins_background c.service.strategy.background i c.service.background)
    as (λ b. let d : Evolution = (if b then begin_background c at else c) in d.service.strategy ≡ c.service.strategy)
    [ true ↦ refl | false ↦ refl ]

shown : (c : Evolution) (s : Option Step) (i at : ℕ) → (show_step c s i at).service ≡ c.service
shown c (Some (SetWeight percent)) i at = refl
shown c (Some (Pause None)) i at = refl
shown c (Some (Pause (Some seconds))) i at = refl
shown c (Some (Analysis names)) i at = refl
shown c None i at = refl

entered : (c : Evolution) (i at : ℕ) → (enter c i at).service.strategy ≡ c.service.strategy
entered c i at =
    let there : Evolution = with_service_state c (record c.service { step = i; entered = at }) in
    elim (i == length c.service.strategy.steps)
    as (λ b. let r : Evolution = (if b then finish there at else show_step (open_background there i at) (slice_get c.service.strategy.steps i) i at) in r.service.strategy ≡ c.service.strategy) [
      | true ↦ finished there at
      | false ↦ (let same = shown (open_background there i at) (slice_get c.service.strategy.steps i) i at in rw same (opened there i at))
    ]

moved : (c : Evolution) (o : Option ℕ) → (move_at c o).service.strategy ≡ c.service.strategy
moved c None = refl
moved c (Some e) = entered c _ e

followed : (n t : ℕ) (c : Evolution) → (chain_end n t c).service.strategy ≡ c.service.strategy
followed zero t c = refl
followed (suc n) t c =
    elim (is_by t (next_move c.service))
    as (λ b. let d : Evolution = elim b [ true ↦ chain_end n t (move_at c (next_move c.service)) | false ↦ c ] in d.service.strategy ≡ c.service.strategy)
    [ true ↦ followed n t (move_at c (next_move c.service)) ∙ moved c (next_move c.service) | false ↦ refl ]

pub passing_keeps : (c : Evolution) (t : ℕ) → (pass c t).service.strategy ≡ c.service.strategy
passing_keeps c t = followed _ (judged_at c.service t) c
