use Rattle.std.proofs.Common.{rules, ◌∙◌}
use Rattle.canary_once.proofs.LastItems.{last_there}
use Rattle.canary_once.proofs.revisions.RevisionList.newest.Goals as goal

pub returns : goal.returns
returns c = c.last.ensures.value ∙ last_there c.as_slice.result.now ∙ search rules
