use Rattle.canary_release.proofs.Seen.{keeps_what_is_seen}
use Rattle.canary_release.proofs.laws.changes.Goals as goal

pub returns : goal.returns
returns c = keeps_what_is_seen
