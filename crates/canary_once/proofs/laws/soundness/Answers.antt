use Rattle.canary_once.proofs.Soundness.{none_lawful, stays_sound}
use Rattle.canary_once.proofs.laws.soundness.Goals as goal

pub returns : goal.returns
returns c = record { lawful = none_lawful c.in_order.ensures.empty; none = c.sound.ensures.empty; kept = stays_sound c.in_order.ensures.keeping c.sound.ensures.keeping }
