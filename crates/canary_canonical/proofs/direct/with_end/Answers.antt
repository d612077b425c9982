use Rattle.std.proofs.Common.{◌≡◌, ◌∙◌, ◌++◌, codes, decimal, string_bytes}
use Rattle.std.proofs.lemmas.Result.{IfOk-weaker}
use Rattle.canary_canonical.proofs.Pieces.{in_five}
use Rattle.canary_canonical.proofs.direct.with_end.Goals as goal

pub returns-clause-value : goal.returns-clause-value
returns-clause-value c =
    let run = codes ",\"run\":" in
    let service = codes ",\"service\":\"" in
    let end = codes "\"}}" in
    let counted : string_bytes c.in_ok-text-2.text ≡ (string_bytes c.args.text ++ run) ++ decimal c.args.run = c.in_ok-text-2.ensures ∙ (λ i. c.in_ok-text.ensures i ++ c.format.ensures.text i) in
    let named : string_bytes c.in_ok-text-4.text ≡ (((string_bytes c.args.text ++ run) ++ decimal c.args.run) ++ service) ++ c.args.service.now =
    c.in_ok-text-4.ensures ∙ (λ i. (c.in_ok-text-3.ensures ∙ (λ j. counted j ++ service)) i ++ c.as_str.ensures.value i) in
    IfOk-weaker c.with-5.result _ _ (λ all h. h ∙ (λ i. named i ++ end) ∙ in_five (string_bytes c.args.text) run (decimal c.args.run) service c.args.service.now end) c.with-5.ensures
