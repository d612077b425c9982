use Rattle.std.proofs.Common.{◌∙◌, ap}
use Rattle.canary_decimal.specs.Reader.{reading_of}
use Rattle.std.proofs.lemmas.Result.{IfOk-weaker}
use Rattle.canary_decimal.proofs.ReadsAll.{reading_sound, reading_complete}
use Rattle.canary_decimal.proofs.reading.read.Goals as goal

pub returns-clause-sound : goal.returns-clause-sound
returns-clause-sound c = IfOk-weaker c.reading_of.result _ _ (λ found e. reading_sound found c.args.text.now (e ∙ ap reading_of c.as_bytes.ensures.value)) c.reading_of.ensures

pub returns-clause-complete : goal.returns-clause-complete
returns-clause-complete c = IfOk-weaker c.reading_of.result _ _ (λ found e. reading_complete found c.args.text.now (e ∙ ap reading_of c.as_bytes.ensures.value)) c.reading_of.ensures
