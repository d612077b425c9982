use Rattle.canary_canonical.proofs.Backwards.{one_text}
use Rattle.canary_canonical.proofs.laws.one_text.Goals as goal

pub returns : goal.returns
returns c = one_text
