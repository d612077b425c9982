use Rattle.std.proofs.Common.{◌≡◌, ◌∙◌, ◌++◌, ℕ, List, map, refl, rules, append_assoc}
use Rattle.std.specs.Prelude.{codes, decimal, string_bytes}
use Rattle.std.proofs.lemmas.Result.{IfOk-weaker}
use Rattle.canary_release.specs.Replies.{bracketed, quoted_phase}
use Rattle.canary_release.proofs.report_reply.with_run.Goals as goal

-- piece by piece, after a text
after : (text a p b r : List ℕ) → ((text ++ a) ++ p) ++ (b ++ r) ≡ text ++ (a ++ (p ++ (b ++ r)))
after text a p b r = simp append_assoc refl

pub returns : goal.returns
returns c =
    let shown = c.args.reported.now in
    let phases : string_bytes c.in_ok-text-2.text ≡ string_bytes c.in_ok-text.text ++ bracketed (map quoted_phase shown.phases) = search rules in
    IfOk-weaker c.with_number.result _ _
    (λ all e.
    e
    ∙ (λ i. phases i ++ (codes ",\"run\":" ++ decimal shown.run))
    ∙ (λ i. (c.in_ok-text.ensures i ++ bracketed (map quoted_phase shown.phases)) ++ (codes ",\"run\":" ++ decimal shown.run))
    ∙ after (string_bytes c.args.text) (codes "{\"code\":\"ok\",\"phases\":") (bracketed (map quoted_phase shown.phases)) (codes ",\"run\":") (decimal shown.run))
    c.with_number.ensures
