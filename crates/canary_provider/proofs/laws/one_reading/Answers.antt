use Rattle.canary_provider.proofs.ReadingLemmas.{one_reading}
use Rattle.canary_provider.proofs.laws.one_reading.Goals as goal

pub returns : goal.returns
returns c = one_reading
