use Rattle.canary_once.specs.BookCalls.{Stays}
use Rattle.canary_page.proofs.DrawnLemmas.{Wrote}
use Rattle.canary_page.proofs.page.draw_jobs.Given as goal

-- the book contains what it did, and the parts so far went out
abbrev pub invariant-loop-job : goal.invariant-loop-job
invariant-loop-job g l = Stays (g.B.Book.state l.fn.book) (g.B.Book.state l.book) × Wrote (g.W.Write.contents l.fn.out) (g.W.Write.contents l.out)
