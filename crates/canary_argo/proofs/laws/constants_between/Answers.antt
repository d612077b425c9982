use Rattle.canary_argo.proofs.SameValues.{within_at}
use Rattle.canary_argo.proofs.laws.constants_between.Goals as goal

pub returns : goal.returns
returns c = within_at c.short_constants.ensures
