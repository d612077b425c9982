use Rattle.canary_tables_contents.proofs.Empty.{empty_holds_nothing}
use Rattle.canary_tables_contents.proofs.laws.nothing.Goals as goal

pub returns : goal.returns
returns c = empty_holds_nothing c.soundness.ensures.lawful
