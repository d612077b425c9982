-- Measurements that are taken out, one after another.
use Rattle.std.proofs.Common.{◌≡◌, ◌∙◌, ℕ, List, [], ◌∷◌, ◌++◌, sym, Option, Some, None}
use Rattle.std.specs.Prelude.{filter, filter_map, is_none}
use Rattle.std.specs.List.{cons_option}
use Rattle.std.proofs.Math.Bool.{cond}
use Rattle.std.proofs.lemmas.List.{append-nil}
use Rattle.std.proofs.lemmas.List.Elements.{filter-append, filter_map-append}
use Rattle.canary_agent.specs.declared.taken.Taken.{Taken}
use Rattle.canary_agent.specs.declared.taking.Taking.{Taking}
use Rattle.canary_agent.specs.Takings.{is_left, taken_of}

module _ (run : ℕ) (gs : List Taking) (g : Taking) (found : List Taken) (left : List Taking) (taken : found ≡ filter_map (taken_of run) gs) (stayed : left ≡ filter (is_left run) gs) where
  -- what came of these and one more
  taken_of_more : (o : Option Taken) → taken_of run g ≡ o → filter_map (taken_of run) (gs ++ g ∷ []) ≡ found ++ cons_option o []
  taken_of_more o is =
      filter_map-append (taken_of run) gs (g ∷ []) ∙ (λ i. (sym taken) i ++ cons_option (is i) [])

  -- which of these and one more are left
  left_of_more : (o : Option Taken) → taken_of run g ≡ o → filter (is_left run) (gs ++ g ∷ []) ≡ left ++ cond (is_none o) (g ∷ []) []
  left_of_more o is =
      filter-append (is_left run) gs (g ∷ []) ∙ (λ i. (sym stayed) i ++ cond (is_none (is i)) (g ∷ []) [])

  -- one more is taken out
  pub taken_out : (t : Taken) (more : List Taken) → taken_of run g ≡ Some t → more ≡ found ++ t ∷ []
      → (more ≡ filter_map (taken_of run) (gs ++ g ∷ [])) × (left ≡ filter (is_left run) (gs ++ g ∷ []))
  taken_out t more is with_it =
      (with_it ∙ sym (taken_of_more (Some t) is), sym (left_of_more (Some t) is ∙ append-nil left))

  -- one more is left
  pub left_over : (more : List Taking) → taken_of run g ≡ None → more ≡ left ++ g ∷ []
      → (found ≡ filter_map (taken_of run) (gs ++ g ∷ [])) × (more ≡ filter (is_left run) (gs ++ g ∷ []))
  left_over more is with_it =
      (sym (taken_of_more None is ∙ append-nil found), with_it ∙ sym (left_of_more None is))
