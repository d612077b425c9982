use Rattle.canary_tables_contents.proofs.Judging.{services_are_judged}
use Rattle.canary_tables_contents.proofs.judged_laws.services_judged.Goals as goal

pub returns : goal.returns
returns c = services_are_judged c.counting.ensures.exact c.counting.ensures.runs
