use Rattle.std.proofs.Common.{refl}
use Rattle.std.specs.Prelude.{length}
use Rattle.canary_measure.proofs.Reports.{length_values}
use Rattle.canary_measure.proofs.reported.with_first.Goals as goal

pub returns : goal.returns
returns c =
    let values = c.args.values.now in
    length_values c.args.form.beside c.args.form.places values c.first-first.result.now c.args.most (length values) c.with_length.result c.first-first.ensures refl c.with_length.ensures
