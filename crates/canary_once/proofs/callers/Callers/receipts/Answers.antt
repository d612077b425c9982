use Rattle.std.proofs.Common.{◌∙◌}
use Rattle.canary_once.proofs.NameMaps.{found_there, found_none}
use Rattle.canary_once.proofs.CallerMaps.{found_few}
use Rattle.canary_once.proofs.callers.Callers.receipts.Goals as goal

pub returns-in-Some-clause-value : goal.returns-in-Some-clause-value
returns-in-Some-clause-value c =
    c.as_slice.ensures ∙ found_there c.self.inside.callers.entries c.args.self.now c.args.caller.now c.in-Some.receipts.now c.self.view_is c.in-Some.ensures.value

pub returns-in-Some-clause-few : goal.returns-in-Some-clause-few
returns-in-Some-clause-few c =
    rw c.as_slice.ensures ((found_few c.self.inside.callers.entries c.args.caller.now c.in-Some.receipts.now c.self.invariant c.in-Some.ensures.value).1)

pub returns-in-None-clause-value : goal.returns-in-None-clause-value
returns-in-None-clause-value c = found_none c.self.inside.callers.entries c.args.self.now c.args.caller.now c.self.view_is c.in-None.ensures.value
