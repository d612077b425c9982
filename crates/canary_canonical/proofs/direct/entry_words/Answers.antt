use Rattle.std.proofs.Common.{◌∙◌, ap}
use Rattle.std.proofs.lemmas.Result.{IfOk-weaker}
use Rattle.serde_json.specs.Written.{has_float, compact_text}
use Rattle.canary_canonical.proofs.PlainData.{plain_entry}
use Rattle.canary_canonical.proofs.direct.entry_words.Goals as goal

pub returns-clause-value : goal.returns-clause-value
returns-clause-value c =
    let same = c.in_ok-value.ensures.value in
    IfOk-weaker c.to_string.result _ _ (λ words h. h (ap has_float same ∙ (plain_entry c.args.entry.now).floatless) ∙ ap compact_text same) c.to_string.ensures.text
