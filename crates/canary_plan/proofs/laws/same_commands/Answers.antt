use Rattle.canary_plan.proofs.Alike.{same_where_equal}
use Rattle.canary_plan.proofs.laws.same_commands.Goals as goal

pub returns : goal.returns
returns c = same_where_equal
