use Rattle.std.proofs.Common.{◌≡◌, ◌∙◌, ◌++◌, codes, append_assoc, string_bytes}
use Rattle.std.proofs.lemmas.Result.{IfOk-weaker}
use Rattle.canary_canonical.proofs.direct.named_text.Goals as goal

pub returns-clause-value : goal.returns-clause-value
returns-clause-value c =
    let end = codes "\"}}" in
    let begun : string_bytes c.in_ok-text-2.text ≡ c.args.front.now = c.in_ok-text-2.ensures ∙ (λ i. c.in_ok-text.ensures.bytes i ++ c.args.front.now) in
    let named : string_bytes c.in_ok-text-3.text ≡ c.args.front.now ++ c.args.service.now = c.in_ok-text-3.ensures ∙ (λ i. begun i ++ c.as_str-name.ensures.value i) in
    IfOk-weaker c.with-3.result _ _ (λ text h. h ∙ (λ i. named i ++ end) ∙ append_assoc c.args.front.now c.args.service.now end) c.with-3.ensures
