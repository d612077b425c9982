use Rattle.canary_tables_contents.proofs.Found.{measurements_are_found}
use Rattle.canary_tables_contents.proofs.laws.measurements_found.Goals as goal

pub returns : goal.returns
returns c = measurements_are_found
