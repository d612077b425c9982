-- One analysis more.
use Rattle.std.proofs.Common.{◌≡◌, ℕ, suc, ◌+◌, ◌<◌, length, take, List, [], ◌∷◌, ◌++◌, ap, sym, ◌∙◌, arith}
use Rattle.std.specs.List.{filter_map}
use Rattle.std.proofs.lemmas.List.Elements.{filter_map-append}
use Rattle.std.proofs.Math.Seq.{take-suc}
use Rattle.std.proofs.Math.ListN.{get_or}
use Rattle.canary_plan.specs.declared.step.Step.{Step}
use Rattle.canary_plan.specs.PlanRefusals.{names_of_step}

next : (i : ℕ) → suc i ≡ i + 1
next i = omega arith

pub one_step_more : (found made : List (List (List ℕ))) (steps : List Step) (i : ℕ) (step : Step) → made ≡ found ++ filter_map names_of_step (step ∷ [])
    → found ≡ filter_map names_of_step (take i steps) → step ≡ get_or steps i step → i < length steps → made ≡ filter_map names_of_step (take (i + 1) steps)
one_step_more found made steps i step grown so_far is within =
    grown ∙ ap (λ names. names ++ filter_map names_of_step (step ∷ [])) so_far ∙ sym (filter_map-append names_of_step (take i steps) (step ∷ []))
    ∙ ap (filter_map names_of_step) (ap (λ (s : Step). take i steps ++ (s ∷ [])) is ∙ sym (take-suc steps i step within) ∙ ap (λ n. take n steps) (next i))
