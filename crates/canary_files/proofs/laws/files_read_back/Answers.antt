use Rattle.canary_files.proofs.FileBack.{file_back}
use Rattle.canary_files.proofs.laws.files_read_back.Goals as goal

pub returns : goal.returns
returns c = file_back
