use Rattle.canary_measure.proofs.Reports.{too_many}
use Rattle.canary_measure.proofs.reported.list.Goals as goal

pub returns-then-values-gt-MAX_VALUES : goal.returns-then-values-gt-MAX_VALUES
returns-then-values-gt-MAX_VALUES c =
    too_many c.args.form.beside c.args.form.places c.args.values.now c.if-values-gt-MAX_VALUES.true
