use Rattle.canary_tables_contents.proofs.Found.{keys_are_unique}
use Rattle.canary_tables_contents.proofs.laws.keys_unique.Goals as goal

pub returns : goal.returns
returns c = keys_are_unique
