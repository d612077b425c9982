use Rattle.canary_decimal.proofs.ReadsAll.{reads_what_is_spelled as reads}
use Rattle.canary_decimal.proofs.laws.reads_what_is_spelled.Goals as goal

pub returns : goal.returns
returns c = reads
