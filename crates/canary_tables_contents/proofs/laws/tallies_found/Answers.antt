use Rattle.canary_tables_contents.proofs.RunsFound.{tallies_are_found}
use Rattle.canary_tables_contents.proofs.laws.tallies_found.Goals as goal

pub returns : goal.returns
returns c = tallies_are_found
