use Rattle.std.proofs.Common.{sym}
use Rattle.canary_once.proofs.Events.{reply_first, after_first}
use Rattle.canary_once.proofs.laws.one_request.Goals as goal

pub returns : goal.returns
returns c = λ k r. (sym (reply_first k r), sym (after_first k r))
