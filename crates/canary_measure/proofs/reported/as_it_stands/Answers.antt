use Rattle.canary_measure.specs.Measures.{measured_of}
use Rattle.canary_measure.proofs.Reports.{some_ending}
use Rattle.canary_measure.proofs.reported.as_it_stands.Goals as goal

pub returns-in-Some : goal.returns-in-Some
returns-in-Some c =
    some_ending c.args.label.now c.in-Some.field-0.name.now c.in-Some.field-0.units (measured_of c.args.measured.now) c.in-Some.ensures
