use Rattle.std.proofs.Common.{◌≡◌, ◌∙◌, ◌++◌, ℕ, List, refl, append_assoc}
use Rattle.std.specs.Prelude.{codes, decimal, string_bytes}
use Rattle.std.proofs.lemmas.Result.{IfOk-weaker}
use Rattle.canary_release.specs.Replies.{status_text}
use Rattle.canary_release.specs.Services.{status}
use Rattle.canary_release.proofs.reply.with_place.Goals as goal

-- pair by pair, after a text
after : (text p n a s b d : List ℕ) → ((text ++ (p ++ n)) ++ (a ++ s)) ++ (b ++ d) ≡ text ++ (p ++ (n ++ (a ++ (s ++ (b ++ d)))))
after text p n a s b d = simp append_assoc refl

pub returns : goal.returns
returns c =
    let service = c.args.service.now in
    let piece = c.args.piece.now in
    let word : c.text.result.now ≡ status_text (status service) = c.text.ensures ∙ (λ i. status_text (c.status.ensures i)) in
    let named : string_bytes c.in_ok-text.text ≡ string_bytes c.args.text ++ (piece ++ service.name) = c.in_ok-text.ensures ∙ (λ i. string_bytes c.args.text ++ (piece ++ c.as_str.ensures.value i)) in
    let told : string_bytes c.in_ok-text-2.text ≡ string_bytes c.in_ok-text.text ++ (codes "\",\"status\":\"" ++ status_text (status service)) = c.in_ok-text-2.ensures ∙ (λ i. string_bytes c.in_ok-text.text ++ (codes "\",\"status\":\"" ++ word i)) in
    IfOk-weaker c.with_number.result _ _
    (λ all e.
    e
    ∙ (λ i. told i ++ (codes "\",\"step\":" ++ decimal service.step))
    ∙ (λ i. (named i ++ (codes "\",\"status\":\"" ++ status_text (status service))) ++ (codes "\",\"step\":" ++ decimal service.step))
    ∙ after (string_bytes c.args.text) piece service.name (codes "\",\"status\":\"") (status_text (status service)) (codes "\",\"step\":") (decimal service.step))
    c.with_number.ensures
