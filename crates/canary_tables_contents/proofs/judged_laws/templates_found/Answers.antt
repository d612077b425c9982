use Rattle.canary_tables_contents.proofs.TemplatesFound.{revisions_count_up, newest_are_found}
use Rattle.canary_tables_contents.proofs.judged_laws.templates_found.Goals as goal

pub returns-clause-count_up : goal.returns-clause-count_up
returns-clause-count_up c = revisions_count_up

pub returns-clause-newest : goal.returns-clause-newest
returns-clause-newest c = newest_are_found c.templates_judged.ensures
