use Rattle.std.proofs.Common.{◌≡◌, Some, subst, sym, length, ◌≤◌, ◌+◌}
use Rattle.canary_once.specs.Contents.{receipts_in}
use Rattle.canary_once.proofs.NameMaps.{written_with, updated_with, found_there, pushed_result, refused_result, first_there}
use Rattle.canary_once.proofs.CallerMaps.{keep_receipts, few_listed, found_few, pushed_few, one_few}
use Rattle.canary_once.proofs.callers.Callers.push.Goals as goal

pub invariant_of-self : goal.invariant_of-self
invariant_of-self c =
    let there : c.in-Some.receipts.now ≡ receipts_in c.args.self.now c.args.caller = found_there c.self.inside.callers.entries c.args.self.now c.args.caller c.in-Some.receipts.now c.self.view_is c.in-Some.ensures.value in
    keep_receipts _ _ c.args.caller (Some c.push.new.self)
    (written_with c.self.inside.callers (c.get_mut.follows.lender c.push.new.self) c.args.caller c.in-Some.receipts.now c.push.new.self c.in-Some.ensures.value (c.get_mut.follows.holds c.push.new.self))
    c.self.invariant
    (few_listed c.push.new.self (pushed_few c.push.result c.in-Some.receipts.now c.push.new.self c.args.receipt c.push.ensures.ok c.push.ensures.err
    (found_few c.self.inside.callers.entries c.args.caller c.in-Some.receipts.now c.self.invariant c.in-Some.ensures.value)
    (subst (λ l. length l + 1 ≤ 1000000000) (sym there) c.requires)))

pub returns-in-Some-clause-ok : goal.returns-in-Some-clause-ok
returns-in-Some-clause-ok c =
    pushed_result c.push.result c.self.inside.callers.entries (c.get_mut.follows.lender c.push.new.self).entries c.args.self.now c.args.caller c.in-Some.receipts.now c.push.new.self c.args.receipt c.self.view_is c.in-Some.ensures.value
    (written_with c.self.inside.callers (c.get_mut.follows.lender c.push.new.self) c.args.caller c.in-Some.receipts.now c.push.new.self c.in-Some.ensures.value (c.get_mut.follows.holds c.push.new.self))
    c.push.ensures.ok

pub returns-in-Some-clause-err : goal.returns-in-Some-clause-err
returns-in-Some-clause-err c =
    refused_result c.push.result c.self.inside.callers.entries (c.get_mut.follows.lender c.push.new.self).entries c.args.self.now c.args.caller c.in-Some.receipts.now c.push.new.self c.self.view_is c.in-Some.ensures.value
    (written_with c.self.inside.callers (c.get_mut.follows.lender c.push.new.self) c.args.caller c.in-Some.receipts.now c.push.new.self c.in-Some.ensures.value (c.get_mut.follows.holds c.push.new.self))
    c.push.ensures.err

pub invariant_of-self-in-None : goal.invariant_of-self-in-None
invariant_of-self-in-None c =
    keep_receipts _ _ c.args.caller (Some c.in_ok-first-in-None.first)
    (updated_with c.get_mut.follows.lender-at-none c.insert.new.self c.self.inside.callers c.args.caller (Some c.in_ok-first-in-None.first) c.get_mut.follows.holds-at-none c.in_ok-insert-in-None.ensures.updates)
    c.self.invariant
    (few_listed c.in_ok-first-in-None.first (one_few c.in_ok-first-in-None.first c.args.receipt c.in_ok-first-in-None.ensures))

pub returns-in_ok-insert-in-None-clause-ok : goal.returns-in_ok-insert-in-None-clause-ok
returns-in_ok-insert-in-None-clause-ok c =
    first_there c.self.inside.callers.entries c.insert.new.self.entries c.args.self.now c.args.caller c.in_ok-first-in-None.first c.args.receipt c.self.view_is c.in-None.ensures.value
    (updated_with c.get_mut.follows.lender-at-none c.insert.new.self c.self.inside.callers c.args.caller (Some c.in_ok-first-in-None.first) c.get_mut.follows.holds-at-none c.in_ok-insert-in-None.ensures.updates)
    c.in_ok-first-in-None.ensures
