use Rattle.canary_tables_contents.proofs.Found.{newest_are_found}
use Rattle.canary_tables_contents.proofs.laws.newest_found.Goals as goal

pub returns : goal.returns
returns c = newest_are_found
