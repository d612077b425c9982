use Rattle.canary_measure.specs.Measures.{measured_of}
use Rattle.canary_measure.proofs.Reports.{in_form}
use Rattle.canary_measure.proofs.reported.result_of.Goals as goal

pub returns-in-Some : goal.returns-in-Some
returns-in-Some c =
    let ending = c.in-Some.ending in
    in_form c.one_form.ensures c.args.label.now ending.name.now ending.form (measured_of c.args.measured.now) c.reported_of.result c.in-Some.ensures c.reported_of.ensures
