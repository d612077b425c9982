use Rattle.canary_files.proofs.ReadBack.{read_back}
use Rattle.canary_files.proofs.laws.rows_read_back.Goals as goal

pub returns : goal.returns
returns c = read_back
