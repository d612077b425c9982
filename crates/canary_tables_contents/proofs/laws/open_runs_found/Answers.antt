use Rattle.canary_tables_contents.proofs.RunsFound.{open_runs_are_found}
use Rattle.canary_tables_contents.proofs.laws.open_runs_found.Goals as goal

pub returns : goal.returns
returns c = open_runs_are_found
