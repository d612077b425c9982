-- What stands for a query in an address reads as the query.
use Rattle.std.proofs.Common.{◌≡◌, true, refl}
use Rattle.percent_encoding.specs.AsciiSet.{contains}
use Rattle.percent_encoding.proofs.PercentLemmas.{round_trip}
use Rattle.canary_provider.specs.declared.target.TheConstants.{QUERY}
use Rattle.canary_provider.specs.Plans.{QueryIsReadAgain}

escapes : contains QUERY 37 ≡ true
escapes = refl

pub query_is_read_again : QueryIsReadAgain
query_is_read_again query bytes = round_trip QUERY query escapes bytes
