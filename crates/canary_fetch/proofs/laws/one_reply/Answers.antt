use Rattle.canary_fetch.proofs.OneReply.{one_reply}
use Rattle.canary_fetch.proofs.laws.one_reply.Goals as goal

pub returns-clause-reply : goal.returns-clause-reply
returns-clause-reply c stream a b r q x y = (one_reply stream a b r q x y).0

pub returns-clause-rest : goal.returns-clause-rest
returns-clause-rest c stream a b r q x y = (one_reply stream a b r q x y).1
