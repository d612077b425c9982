use Rattle.canary_once.specs.BookCalls.{Stays}
use Rattle.canary_page.proofs.records.record_pages.runs_in.Given as goal

abbrev pub invariant-loop-recorded : goal.invariant-loop-recorded
invariant-loop-recorded g l = Stays (g.B.Book.state l.fn.book) (g.B.Book.state l.book)
