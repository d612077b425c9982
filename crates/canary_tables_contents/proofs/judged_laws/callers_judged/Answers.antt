use Rattle.canary_tables_contents.proofs.CallersJudged.{callers_are_judged}
use Rattle.canary_tables_contents.proofs.judged_laws.callers_judged.Goals as goal

pub returns : goal.returns
returns c = callers_are_judged
