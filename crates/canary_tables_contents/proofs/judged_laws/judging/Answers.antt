use Rattle.canary_tables_contents.proofs.Judging.{judging_is_exact}
use Rattle.canary_tables_contents.proofs.judged_laws.judging.Goals as goal

pub returns : goal.returns
returns c = judging_is_exact c.callers_judged.ensures c.templates_judged.ensures c.services_judged.ensures c.parts.ensures
