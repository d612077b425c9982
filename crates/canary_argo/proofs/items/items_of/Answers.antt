use Rattle.canary_argo.proofs.Groups.{one_more_item, item_shorter}
use Rattle.canary_argo.proofs.items.items_of.Goals as goal

pub loop-rest-preserved : goal.loop-rest-preserved
loop-rest-preserved c = one_more_item c.args.tokens.now c.loop-rest.items.items c.push.new.self.items c.loop-rest.rest.now c.in-Some.behind.now c.in-Some.item c.loop-rest.invariant c.in-Some.ensures c.in_ok-push.ensures.items

pub loop-rest-smaller : goal.loop-rest-smaller
loop-rest-smaller c = item_shorter c.loop-rest.rest.now c.in-Some.behind.now c.in-Some.item c.in-Some.ensures
