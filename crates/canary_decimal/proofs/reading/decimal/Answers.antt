use Rattle.std.proofs.lemmas.Result.{IfOk-weaker}
use Rattle.canary_decimal.proofs.ReadsAll.{decimal_sound, decimal_complete}
use Rattle.canary_decimal.proofs.reading.decimal.Goals as goal

pub returns-clause-sound : goal.returns-clause-sound
returns-clause-sound c = IfOk-weaker c.exactly.result _ _ (λ found e. decimal_sound found c.args.text.now e) c.exactly.ensures

pub returns-clause-complete : goal.returns-clause-complete
returns-clause-complete c = IfOk-weaker c.exactly.result _ _ (λ found e. decimal_complete found c.args.text.now e) c.exactly.ensures
