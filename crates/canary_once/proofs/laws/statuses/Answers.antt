use Rattle.canary_once.proofs.Statuses.{none_settled, stays_settled, requests_answered, queries_answered}
use Rattle.canary_once.proofs.laws.statuses.Goals as goal

pub returns : goal.returns
returns c = record { none = none_settled; kept = stays_settled c.refusals.ensures; requests = requests_answered c.refusals.ensures; queries = queries_answered }
