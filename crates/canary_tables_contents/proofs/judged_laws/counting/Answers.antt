use Rattle.canary_tables_contents.proofs.CountingLemmas.{counting_counts}
use Rattle.canary_tables_contents.proofs.CountingExact.{counting_is_exact}
use Rattle.canary_tables_contents.proofs.CountingRuns.{runs_are_tallied}
use Rattle.canary_tables_contents.proofs.judged_laws.counting.Goals as goal

pub returns-clause-exact : goal.returns-clause-exact
returns-clause-exact c = counting_is_exact

pub returns-clause-counts : goal.returns-clause-counts
returns-clause-counts c = counting_counts c.one_more.ensures

pub returns-clause-runs : goal.returns-clause-runs
returns-clause-runs c = runs_are_tallied c.one_more.ensures
