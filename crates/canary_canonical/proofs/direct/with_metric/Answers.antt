use Rattle.std.proofs.Common.{◌≡◌, ◌∙◌, ◌++◌, codes, decimal, string_bytes}
use Rattle.std.proofs.lemmas.Result.{IfOk-weaker}
use Rattle.canary_canonical.proofs.Pieces.{in_five}
use Rattle.canary_canonical.proofs.direct.with_metric.Goals as goal

pub returns-clause-value : goal.returns-clause-value
returns-clause-value c =
    let front = codes "{\"metric\":\"" in
    let ordinal = codes "\",\"ordinal\":" in
    let result = codes ",\"result\":" in
    let named : string_bytes c.in_ok-text-2.text ≡ (string_bytes c.args.text ++ front) ++ c.args.metric.now = c.in_ok-text-2.ensures ∙ (λ i. c.in_ok-text.ensures i ++ c.as_str.ensures.value i) in
    let counted : string_bytes c.in_ok-text-4.text ≡ (((string_bytes c.args.text ++ front) ++ c.args.metric.now) ++ ordinal) ++ decimal c.args.ordinal =
    c.in_ok-text-4.ensures ∙ (λ i. (c.in_ok-text-3.ensures ∙ (λ j. named j ++ ordinal)) i ++ c.format.ensures.text i) in
    IfOk-weaker c.with-5.result _ _ (λ all h. h ∙ (λ i. counted i ++ result) ∙ in_five (string_bytes c.args.text) front c.args.metric.now ordinal (decimal c.args.ordinal) result) c.with-5.ensures
