use Rattle.canary_tables_contents.proofs.RunsFound.{runs_have_services}
use Rattle.canary_tables_contents.proofs.laws.runs_have_services.Goals as goal

pub returns : goal.returns
returns c = runs_have_services
