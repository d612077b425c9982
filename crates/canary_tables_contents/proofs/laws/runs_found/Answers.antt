use Rattle.canary_tables_contents.proofs.RunsFound.{runs_are_found}
use Rattle.canary_tables_contents.proofs.laws.runs_found.Goals as goal

pub returns : goal.returns
returns c = runs_are_found
