use Rattle.canary_release.specs.Stored.{evolution_of, stored_after}
use Rattle.canary_release.proofs.PartsKept.{fit_of}
use Rattle.canary_release.proofs.rules.commands.recall_bounds.Goals as goal

pub returns-clause-numbers : goal.returns-clause-numbers
returns-clause-numbers c = (fit_of (stored_after (evolution_of c.args.transition.now)) c.requires).0.distinct
