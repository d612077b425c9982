use Rattle.canary_provider.proofs.QueryLemmas.{query_is_read_again}
use Rattle.canary_provider.proofs.laws.query_is_read_again.Goals as goal

pub returns : goal.returns
returns c = query_is_read_again
