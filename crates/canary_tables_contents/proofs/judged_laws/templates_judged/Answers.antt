use Rattle.canary_tables_contents.proofs.Templates.{templates_are_judged}
use Rattle.canary_tables_contents.proofs.judged_laws.templates_judged.Goals as goal

pub returns : goal.returns
returns c = templates_are_judged
