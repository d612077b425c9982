use Rattle.canary_tables_contents.proofs.Found.{histories_are_found}
use Rattle.canary_tables_contents.proofs.laws.histories_found.Goals as goal

pub returns : goal.returns
returns c = histories_are_found
