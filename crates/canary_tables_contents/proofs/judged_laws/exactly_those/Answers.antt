use Rattle.canary_tables_contents.proofs.Soundness.{exactly_those}
use Rattle.canary_tables_contents.proofs.judged_laws.exactly_those.Goals as goal

pub returns : goal.returns
returns c = exactly_those c.reads_back.ensures
