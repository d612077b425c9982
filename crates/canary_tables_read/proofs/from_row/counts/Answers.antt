use Rattle.std.proofs.Common.{subst}
use Rattle.canary_metric.specs.Counts.{SomeListHas}
use Rattle.canary_tables_read.proofs.ByColumns.{counts_same}
use Rattle.canary_tables_read.proofs.from_row.counts.Goals as goal

pub returns-in-None-clause-broken : goal.returns-in-None-clause-broken
returns-in-None-clause-broken c e tally is within =
    let same = counts_same c.args.row.now tally.counts _ _ _ is c.in_ok-counted.ensures.found c.in_ok-failed.ensures.found c.in_ok-inconclusive.ensures.found c.in_ok-errors.ensures.found c.in_ok-consecutive.ensures.found c.in_ok-passes.ensures.found c.in_ok-last.ensures.found in
    c.in-None.ensures (subst SomeListHas same ((c.consistent.ensures tally.counts).1 within.counts))
