use Rattle.canary_once.specs.BookCalls.{Stays}
use Rattle.canary_page.proofs.reading.runs_of.Given as goal

abbrev pub invariant-loop-number : goal.invariant-loop-number
invariant-loop-number g l = Stays (g.B.Book.state l.fn.book) (g.B.Book.state l.book)
