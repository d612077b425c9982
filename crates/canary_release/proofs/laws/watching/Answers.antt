use Rattle.canary_release.proofs.Alike.{watches_alike}
use Rattle.canary_release.proofs.laws.watching.Goals as goal

pub returns : goal.returns
returns c = watches_alike c.one_more.ensures
