use Rattle.canary_release.proofs.Changing.{commands_change}
use Rattle.canary_release.proofs.laws.effects.Goals as goal

pub returns : goal.returns
returns c = commands_change c.watching.ensures c.parts.ensures.passing c.parts.ensures.acting c.parts.ensures.adding
