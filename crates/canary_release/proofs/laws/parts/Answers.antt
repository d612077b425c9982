use Rattle.canary_release.proofs.PartsActing.{passing_keeps, acting_keeps, new_are_unbroken}
use Rattle.canary_release.proofs.laws.parts.Goals as goal

pub returns : goal.returns
returns c = record { passing = passing_keeps; acting = acting_keeps; adding = new_are_unbroken }
