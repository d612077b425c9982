use Rattle.canary_decimal.specs.Endings.{beside_text}
use Rattle.canary_measure.proofs.Forms.{short_front, long_front}
use Rattle.canary_measure.proofs.label.front_len.Goals as goal

pub returns-then-units-lt10-clause-value : goal.returns-then-units-lt10-clause-value
returns-then-units-lt10-clause-value c =
    short_front c.args.units.places c.letter_len-letter.result (beside_text c.args.units.beside) c.if-units-lt10.true c.letter_len-letter.ensures.value

pub returns-else-units-lt10-clause-value : goal.returns-else-units-lt10-clause-value
returns-else-units-lt10-clause-value c =
    long_front c.args.units.places c.letter_len-letter.result (beside_text c.args.units.beside) c.if-units-lt10.false c.requires c.letter_len-letter.ensures.value
