use Rattle.std.proofs.Common.{◌≡◌, ◌≤◌, Some, None, subst}
use Rattle.canary_once.specs.Contents.{receipts_in}
use Rattle.canary_once.proofs.NameMaps.{written_with, entries_with, found_there, found_none}
use Rattle.canary_once.proofs.CallerMaps.{keep_receipts, few_listed, none_listed, found_few, popped_few, long_there, not_alone, shorter_back, gone_back}
use Rattle.canary_once.proofs.callers.Callers.take_back.Goals as goal

pub invariant_of-self : goal.invariant_of-self
invariant_of-self c =
    let there : c.in-Some.receipts.now ≡ receipts_in c.args.self.now c.args.caller.now = found_there c.self.inside.callers.entries c.args.self.now c.args.caller.now c.in-Some.receipts.now c.self.view_is c.in-Some.ensures.value in
    keep_receipts _ _ c.args.caller.now (Some c.pop.new.self)
    (written_with c.self.inside.callers (c.get_mut.follows.lender c.pop.new.self) c.args.caller.now c.in-Some.receipts.now c.pop.new.self c.in-Some.ensures.value (c.get_mut.follows.holds c.pop.new.self))
    c.self.invariant
    (few_listed c.pop.new.self (popped_few c.in-Some.receipts.now c.pop.new.self c.pop.ensures.shorter
    (long_there c.args.self.now c.args.caller.now c.in-Some.receipts.now c.count.result c.count.ensures there c.if-count-gt1.true)
    (found_few c.self.inside.callers.entries c.args.caller.now c.in-Some.receipts.now c.self.invariant c.in-Some.ensures.value)))

pub invariant_of-self-else-count-gt1 : goal.invariant_of-self-else-count-gt1
invariant_of-self-else-count-gt1 c =
    keep_receipts _ _ c.args.caller.now None (entries_with c.self.inside.callers.entries c.remove.new.self.entries c.args.caller.now None c.remove.ensures.updates.0) c.self.invariant none_listed

pub returns-in-Some : goal.returns-in-Some
returns-in-Some c before last all was =
    let there : c.in-Some.receipts.now ≡ receipts_in c.args.self.now c.args.caller.now = found_there c.self.inside.callers.entries c.args.self.now c.args.caller.now c.in-Some.receipts.now c.self.view_is c.in-Some.ensures.value in
    shorter_back c.self.inside.callers.entries (c.get_mut.follows.lender c.pop.new.self).entries c.args.self.now before c.args.caller.now c.in-Some.receipts.now c.pop.new.self last c.self.view_is there
    (long_there c.args.self.now c.args.caller.now c.in-Some.receipts.now c.count.result c.count.ensures there c.if-count-gt1.true)
    c.pop.ensures.last
    (written_with c.self.inside.callers (c.get_mut.follows.lender c.pop.new.self) c.args.caller.now c.in-Some.receipts.now c.pop.new.self c.in-Some.ensures.value (c.get_mut.follows.holds c.pop.new.self))
    was

pub returns-in_default : goal.returns-in_default
returns-in_default c before last all was =
    absurd (not_alone c.args.self.now c.args.caller.now c.count.result c.count.ensures (found_none c.self.inside.callers.entries c.args.self.now c.args.caller.now c.self.view_is c.in_default.ensures.value) c.if-count-gt1.true)

pub returns-else-count-gt1 : goal.returns-else-count-gt1
returns-else-count-gt1 c before last all was =
    gone_back c.self.inside.callers.entries c.remove.new.self.entries c.args.self.now before c.args.caller.now last c.self.view_is (subst (λ n. n ≤ 1) c.count.ensures c.if-count-gt1.false) all
    (entries_with c.self.inside.callers.entries c.remove.new.self.entries c.args.caller.now None c.remove.ensures.updates.0) was
