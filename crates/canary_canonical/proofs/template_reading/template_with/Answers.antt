use Rattle.canary_canonical.proofs.Kept.{made_where_kept}
use Rattle.canary_canonical.proofs.template_reading.template_with.Goals as goal

pub returns : goal.returns
returns c = made_where_kept _ _ _
