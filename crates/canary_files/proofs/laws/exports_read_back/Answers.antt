use Rattle.canary_files.proofs.ExportsBack.{exports_back}
use Rattle.canary_files.proofs.laws.exports_read_back.Goals as goal

pub returns : goal.returns
returns c = exports_back
