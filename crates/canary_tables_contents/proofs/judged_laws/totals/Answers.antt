use Rattle.canary_tables_contents.proofs.Totals.{runs_are_summed, bindings_are_summed}
use Rattle.canary_tables_contents.proofs.judged_laws.totals.Goals as goal

pub returns-clause-tallies : goal.returns-clause-tallies
returns-clause-tallies c = runs_are_summed

pub returns-clause-bindings : goal.returns-clause-bindings
returns-clause-bindings c = bindings_are_summed
