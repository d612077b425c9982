use Rattle.canary_tables_contents.proofs.Found.{revisions_are_found}
use Rattle.canary_tables_contents.proofs.laws.revisions_found.Goals as goal

pub returns : goal.returns
returns c = revisions_are_found
