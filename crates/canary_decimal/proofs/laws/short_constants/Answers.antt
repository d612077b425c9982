use Rattle.canary_decimal.proofs.Shorts.{short_constants as constants}
use Rattle.canary_decimal.proofs.laws.short_constants.Goals as goal

pub returns : goal.returns
returns c = constants
