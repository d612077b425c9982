use Rattle.std.proofs.Common.{◌≡◌, ◌∙◌, ◌∷◌, ◌++◌, [], ℕ, List, map, codes, refl, append_assoc, string_bytes}
use Rattle.std.proofs.lemmas.Result.{IfOk-weaker}
use Rattle.std.specs.List.{join_with_byte}
use Rattle.canary_once.specs.Views.{quoted_line}
use Rattle.canary_once.proofs.view_text.history_text.Goals as goal

-- the pieces, with the brackets apart
in_brackets : (front joined middle name back : List ℕ) → (((front ++ 91 ∷ []) ++ joined) ++ ((93 ∷ middle) ++ name)) ++ back ≡ front ++ ((91 ∷ (joined ++ 93 ∷ [])) ++ (middle ++ (name ++ back)))
in_brackets front joined middle name back = simp append_assoc refl

pub returns : goal.returns
returns c =
    let lines : List ℕ = join_with_byte 44 (map quoted_line c.args.lines.now) in
    let so_far : string_bytes c.in_ok-text.text ≡ codes "{\"code\":\"ok\",\"lines\":[" ++ lines = c.in_ok-text.ensures ∙ (λ i. c.in_ok-front.ensures i ++ lines) in
    let named : string_bytes c.in_ok-text-2.text ≡ (codes "{\"code\":\"ok\",\"lines\":[" ++ lines) ++ (codes "],\"service\":\"" ++ c.args.name) = c.in_ok-text-2.ensures ∙ (λ i. so_far i ++ (codes "],\"service\":\"" ++ c.as_str.ensures.value i)) in
    IfOk-weaker c.joined-2.result _ _ (λ text e. e ∙ (λ i. named i ++ codes "\"}") ∙ in_brackets (codes "{\"code\":\"ok\",\"lines\":") lines (codes ",\"service\":\"") c.args.name (codes "\"}")) c.joined-2.ensures
