use Rattle.canary_measure.proofs.Reports.{several_values}
use Rattle.canary_measure.proofs.reported.of_several.Goals as goal

pub returns-in-Several : goal.returns-in-Several
returns-in-Several c =
    several_values c.args.form c.args.values.now c.first.result.now c.in-Several.most c.list.result c.in-Several.is c.first.ensures c.list.ensures
