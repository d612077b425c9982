use Rattle.canary_fetch.specs.Asking.{AreSame}
use Rattle.canary_fetch.specs.Asked.{is_there}
use Rattle.canary_fetch.proofs.underway.Underway.connect_next.Given as goal

abbrev pub invariant-queue : goal.invariant-queue
invariant-queue g l = AreSame (is_there l.fn.self) (is_there l.self)
