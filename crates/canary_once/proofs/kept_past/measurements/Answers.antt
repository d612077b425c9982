use Rattle.std.proofs.Common.{rules, tests}
use Rattle.std.proofs.lemmas.Iterator.{YieldsList-from_slice}
use Rattle.std.proofs.lemmas.Iterator.Consumers.{YieldsList-at, YieldsList-from_filter, count_from_yields_List}
use Rattle.canary_once.specs.KeptRooms.{is_measurement}
use Rattle.canary_once.proofs.kept_past.measurements.Goals as goal

pub returns : goal.returns
returns c =
    count_from_yields_List c.filter.result _ c.count.ensures.ran
    (YieldsList-from_filter _ is_measurement (YieldsList-at c.filter.ensures.source (YieldsList-from_slice c.args.effects.now cc)) c.filter.ensures.closure (λ x r q k. search (rules, tests)))
