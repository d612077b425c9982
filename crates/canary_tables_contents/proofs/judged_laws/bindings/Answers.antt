use Rattle.canary_tables_contents.proofs.NamedRevisions.{attempts_name_revisions, runs_name_revisions}
use Rattle.canary_tables_contents.proofs.judged_laws.bindings.Goals as goal

pub returns-clause-attempts : goal.returns-clause-attempts
returns-clause-attempts c = attempts_name_revisions

pub returns-clause-runs : goal.returns-clause-runs
returns-clause-runs c = runs_name_revisions
