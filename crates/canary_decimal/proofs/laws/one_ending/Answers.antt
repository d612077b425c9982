use Rattle.canary_decimal.proofs.EndingsApart.{one_ending as one}
use Rattle.canary_decimal.proofs.laws.one_ending.Goals as goal

pub returns : goal.returns
returns c = one
