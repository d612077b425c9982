use Rattle.canary_fetch.specs.Asking.{AreSame}
use Rattle.canary_fetch.specs.Asked.{is_there}
use Rattle.canary_fetch.proofs.underway.Underway.dispatch_all.Given as goal

abbrev pub invariant-events : goal.invariant-events
invariant-events l = AreSame (is_there l.fn.self) (is_there l.self)
