use Rattle.canary_tables_contents.proofs.RunsFound.{services_are_found}
use Rattle.canary_tables_contents.proofs.laws.services_found.Goals as goal

pub returns : goal.returns
returns c = services_are_found
