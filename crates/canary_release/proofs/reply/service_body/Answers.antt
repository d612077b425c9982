use Rattle.std.proofs.Common.{◌≡◌, ◌∙◌, ◌++◌, ℕ, List, refl, append_assoc}
use Rattle.std.specs.Prelude.{codes, decimal, string_bytes}
use Rattle.std.proofs.lemmas.Result.{IfOk-weaker}
use Rattle.canary_release.specs.Replies.{status_text}
use Rattle.canary_release.specs.Services.{status, weight}
use Rattle.canary_release.proofs.reply.service_body.Goals as goal

-- the place and the weight in one
in_one : (p n a s b d w : List ℕ) → (p ++ (n ++ (a ++ (s ++ (b ++ d))))) ++ w ≡ p ++ (n ++ (a ++ (s ++ (b ++ (d ++ w)))))
in_one p n a s b d w = simp append_assoc refl

pub returns : goal.returns
returns c =
    let service = c.args.service.now in
    let front = codes "{\"code\":\"ok\",\"service\":\"" in
    let place = front ++ (service.name ++ (codes "\",\"status\":\"" ++ (status_text (status service) ++ (codes "\",\"step\":" ++ decimal service.step)))) in
    let back = codes ",\"weight\":" ++ (decimal (weight service) ++ codes "}") in
    let placed : string_bytes c.in_ok-text-2.text ≡ place = c.in_ok-text-2.ensures ∙ (λ i. c.in_ok-text.ensures.bytes i ++ place) in
    IfOk-weaker c.with_weight.result _ _
    (λ body e.
    e
    ∙ (λ i. placed i ++ back)
    ∙ in_one front service.name (codes "\",\"status\":\"") (status_text (status service)) (codes "\",\"step\":") (decimal service.step) back)
    c.with_weight.ensures
