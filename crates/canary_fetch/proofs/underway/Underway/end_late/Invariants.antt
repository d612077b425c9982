use Rattle.canary_fetch.specs.Asking.{AreSame}
use Rattle.canary_fetch.specs.Asked.{is_there}
use Rattle.canary_fetch.proofs.underway.Underway.end_late.Given as goal

abbrev pub invariant-late : goal.invariant-late
invariant-late l = AreSame (is_there l.fn.self) (is_there l.self)
