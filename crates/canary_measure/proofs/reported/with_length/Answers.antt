use Rattle.canary_measure.proofs.Reports.{too_many_after}
use Rattle.canary_measure.proofs.reported.with_length.Goals as goal

pub returns-then-values-ge-MAX_VALUES : goal.returns-then-values-ge-MAX_VALUES
returns-then-values-ge-MAX_VALUES c =
    too_many_after c.args.form.beside c.args.form.places c.args.len c.args.values.now c.if-values-ge-MAX_VALUES.true
