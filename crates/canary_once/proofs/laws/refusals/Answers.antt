use Rattle.canary_once.proofs.Lawful.{conflicts_change_nothing, refusals_leave_the_desk}
use Rattle.canary_once.proofs.laws.refusals.Goals as goal

pub returns : goal.returns
returns c = record { conflicts = conflicts_change_nothing c.refusals.ensures; refused = refusals_leave_the_desk c.refusals.ensures }
