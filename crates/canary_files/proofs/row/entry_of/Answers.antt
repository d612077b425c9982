use Rattle.canary_files.proofs.Kept.{made_where_kept}
use Rattle.canary_files.proofs.row.entry_of.Goals as goal

pub returns : goal.returns
returns c = made_where_kept _ _ _
