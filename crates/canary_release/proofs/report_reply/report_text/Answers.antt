use Rattle.std.proofs.Common.{◌≡◌, ◌∙◌, ◌∷◌, ◌++◌, [], ℕ, List, map, refl, append_assoc}
use Rattle.std.specs.Prelude.{codes, decimal, string_bytes}
use Rattle.std.proofs.lemmas.Result.{IfOk-weaker}
use Rattle.canary_condition.specs.PhaseTexts.{phase_text}
use Rattle.canary_release.specs.Replies.{bracketed, status_text, quoted_phase}
use Rattle.canary_release.specs.Services.{status, weight}
use Rattle.canary_release.proofs.report_reply.report_text.Goals as goal

-- four texts in one, piece by piece
in_one : (a p b r s n t u v d x q y g : List ℕ)
    → (((a ++ (p ++ (b ++ r))) ++ ((44 ∷ (s ++ 34 ∷ [])) ++ (n ++ ((34 ∷ (t ++ 34 ∷ [])) ++ (u ++ ((34 ∷ v) ++ d)))))) ++ ((x ++ 34 ∷ []) ++ q)) ++ ((34 ∷ y) ++ g)
    ≡ a ++ (p ++ (b ++ (r ++ ((44 ∷ []) ++ ((s ++ ((34 ∷ (n ++ 34 ∷ [])) ++ (t ++ ((34 ∷ (u ++ 34 ∷ [])) ++ (v ++ d))))) ++ (x ++ ((34 ∷ (q ++ 34 ∷ [])) ++ (y ++ g))))))))
in_one a p b r s n t u v d x q y g = simp append_assoc refl

pub returns : goal.returns
returns c =
    let shown = c.args.reported.now in
    let service = c.args.service.now in
    let front = codes "{\"code\":\"ok\",\"phases\":" ++ (bracketed (map quoted_phase shown.phases) ++ (codes ",\"run\":" ++ decimal shown.run)) in
    let place = codes ",\"service\":\"" ++ (service.name ++ (codes "\",\"status\":\"" ++ (status_text (status service) ++ (codes "\",\"step\":" ++ decimal service.step)))) in
    let verdict = codes ",\"verdict\":\"" ++ phase_text shown.verdict in
    let back = codes "\",\"weight\":" ++ (decimal (weight service) ++ codes "}") in
    let begun : string_bytes c.in_ok-text-2.text ≡ front = c.in_ok-text-2.ensures ∙ (λ i. c.in_ok-text.ensures.bytes i ++ front) in
    let judged : string_bytes c.in_ok-text-4.text ≡ string_bytes c.in_ok-text-3.text ++ verdict = c.in_ok-text-4.ensures ∙ (λ i. string_bytes c.in_ok-text-3.text ++ (codes ",\"verdict\":\"" ++ c.text.ensures i)) in
    IfOk-weaker c.with_weight.result _ _
    (λ text e.
    e
    ∙ (λ i. judged i ++ back)
    ∙ (λ i. (c.in_ok-text-3.ensures i ++ verdict) ++ back)
    ∙ (λ i. ((begun i ++ place) ++ verdict) ++ back)
    ∙ in_one (codes "{\"code\":\"ok\",\"phases\":") (bracketed (map quoted_phase shown.phases)) (codes ",\"run\":") (decimal shown.run) (codes "\"service\":") service.name (codes ",\"status\":") (status_text (status service)) (codes ",\"step\":")
    (decimal service.step) (codes ",\"verdict\":") (phase_text shown.verdict) (codes ",\"weight\":") (decimal (weight service) ++ codes "}"))
    c.with_weight.ensures
