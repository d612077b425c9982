use Rattle.canary_once.specs.BookCalls.{Stays}
use Rattle.canary_programs.proofs.status.add_services.Given as goal

abbrev pub invariant-loop-name : goal.invariant-loop-name
invariant-loop-name g l = Stays (g.B.Book.state l.fn.book) (g.B.Book.state l.book)
