use Rattle.canary_release.proofs.Ordering.{no_desk_in_order, stay_in_order}
use Rattle.canary_release.proofs.laws.in_order.Goals as goal

pub returns : goal.returns
returns c = record { empty = no_desk_in_order; keeping = stay_in_order c.watching.ensures c.parts.ensures.passing c.parts.ensures.acting c.parts.ensures.adding }
