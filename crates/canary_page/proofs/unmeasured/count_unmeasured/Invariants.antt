use Rattle.canary_once.specs.BookCalls.{Stays}
use Rattle.canary_page.proofs.unmeasured.count_unmeasured.Given as goal

abbrev pub invariant-loop-place : goal.invariant-loop-place
invariant-loop-place g l = Stays (g.B.Book.state l.fn.book) (g.B.Book.state l.book)
