use Rattle.std.proofs.Common.{◌≡◌, ◌∙◌, ◌++◌, codes, decimal, string_bytes, to_z, of_z, w64, rules}
use Rattle.std.specs.Fmt.{signed_decimal}
use Rattle.std.proofs.lemmas.Result.{IfOk-weaker}
use Rattle.canary_canonical.proofs.Pieces.{whole_text, label_plain}
use Rattle.canary_canonical.proofs.direct.with_whole.Goals as goal

pub returns-clause-value : goal.returns-clause-value
returns-clause-value c =
    let entry = c.args.entry.now in
    let back : to_z w64 (of_z w64 c.args.number) ≡ c.args.number = search rules in
    IfOk-weaker c.with_result.result _ _
    (λ all h. h ∙ (λ i. c.in_ok-text.ensures.value i ++ (signed_decimal (back i) ++ (codes ",\"taken\":" ++ (decimal entry.taken ++ codes "}")))) ∙ whole_text (string_bytes c.args.text) entry.metric entry.ordinal entry.taken c.args.number (label_plain entry.metric c.in_ok-text.ensures.kept))
    c.with_result.ensures.value
