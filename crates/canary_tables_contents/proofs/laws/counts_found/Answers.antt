use Rattle.canary_tables_contents.proofs.Found.{counts_are_found}
use Rattle.canary_tables_contents.proofs.laws.counts_found.Goals as goal

pub returns : goal.returns
returns c = counts_are_found
