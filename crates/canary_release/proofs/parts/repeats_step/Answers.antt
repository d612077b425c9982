use Rattle.std.proofs.Common.{rules, tests, ap, nat_lt}
use Rattle.std.proofs.lemmas.Iterator.{YieldsList-from_slice}
use Rattle.std.proofs.lemmas.Iterator.Consumers.{YieldsList-at, YieldsList-from_filter, count_from_yields_List}
use Rattle.canary_release.specs.Parts.{is_step_run}
use Rattle.canary_release.proofs.parts.repeats_step.Goals as goal

pub returns : goal.returns
returns c =
    ap (nat_lt 1) (count_from_yields_List c.filter.result _ c.count.ensures.ran
    (YieldsList-from_filter _ is_step_run (YieldsList-at c.filter.ensures.source (YieldsList-from_slice c.args.runs.now cc)) c.filter.ensures.closure (λ x r q k. search (rules, tests))))
