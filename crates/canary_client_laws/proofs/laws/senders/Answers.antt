use Rattle.canary_client_laws.proofs.Receipts.{nobody_yet}
use Rattle.canary_client_laws.proofs.Drawn.{settle_first_parts}
use Rattle.canary_client_laws.proofs.Replies.{none_is_reused}
use Rattle.canary_client_laws.proofs.Last.{last_settles_all}
use Rattle.canary_client_laws.proofs.laws.senders.Goals as goal

pub returns : goal.returns
returns c = record {
  none = nobody_yet;
  first_parts = settle_first_parts;
  not_reused = none_is_reused c.same_commands.ensures c.refusals.ensures c.statuses.ensures.kept c.statuses.ensures.queries;
  last = last_settles_all;
}
