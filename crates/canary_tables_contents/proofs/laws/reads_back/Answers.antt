use Rattle.canary_tables_contents.proofs.ReadBack.{reads_back}
use Rattle.canary_tables_contents.proofs.laws.reads_back.Goals as goal

pub returns : goal.returns
returns c = reads_back
