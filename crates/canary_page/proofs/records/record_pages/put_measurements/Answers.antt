use Rattle.std.proofs.Common.{rules}
use Rattle.canary_page.proofs.PageLemmas.{page_more}
use Rattle.canary_page.proofs.records.record_pages.put_measurements.Goals as goal

pub loop-preserved : goal.loop-preserved
loop-preserved g c = (
  search rules,
  λ honest.
      page_more (g.B.Book.state c.args.book.now) (g.B.Book.state c.loop.book) (g.B.Book.state c.put_page.new.book) c.args.name.now c.loop.from c.in_ok-count.count
      c.loop.invariant.0 c.put_page.ensures.stays c.loop.invariant.1 c.in_ok-count.ensures.page _ (search rules) honest,
)
