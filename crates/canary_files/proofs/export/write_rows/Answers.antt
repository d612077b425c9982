use Rattle.std.proofs.Common.{ℕ, rules}
use Rattle.canary_once.proofs.BookLemmas.{stays_then}
use Rattle.canary_files.proofs.ExportLemmas.{short_on, more_on, why_on}
use Rattle.canary_files.proofs.export.write_rows.Goals as goal

pub returns-in_err-next-clause-writes : goal.returns-in_err-next-clause-writes
returns-in_err-next-clause-writes g c =
    let source = c.args.source.now in
    short_on (g.B.Book.state c.args.book.now) (g.B.Book.state c.loop-latest.book) (g.B.Book.state c.write_page.new.book) source.caller source.service (g.W.Write.contents c.args.out.now) (g.W.Write.contents c.loop-latest.out) (g.W.Write.contents c.write_page.new.out) c.loop-latest.rows c.write_page.result c.from_residual.result c.loop-latest.invariant.0 c.write_page.ensures.stays c.loop-latest.invariant.3 c.write_page.ensures.writes c.from_residual.ensures.0

pub returns-in_err-next-clause-why : goal.returns-in_err-next-clause-why
returns-in_err-next-clause-why g c =
    let source = c.args.source.now in
    why_on (g.B.Book.state c.args.book.now) (g.B.Book.state c.loop-latest.book) (g.B.Book.state c.write_page.new.book) source.caller source.service (g.W.Write.contents c.args.out.now) (g.W.Write.contents c.loop-latest.out) c.loop-latest.rows c.write_page.result c.from_residual.result c.loop-latest.invariant.0 c.write_page.ensures.stays c.loop-latest.invariant.3 c.write_page.ensures.why (search rules)

pub loop-latest-preserved : goal.loop-latest-preserved
loop-latest-preserved g c =
    let source = c.args.source.now in
    let old = g.B.Book.state c.args.book.now in
    let before = g.B.Book.state c.loop-latest.book in
    let after = g.B.Book.state c.write_page.new.book in
    let next : ℕ = c.in_ok-next.next in (
      stays_then old before after c.loop-latest.invariant.0 c.write_page.ensures.stays,
      c.in_ok-next.ensures.grows.1,
      c.in_ok-next.ensures.latest,
      more_on old before after source.caller source.service (g.W.Write.contents c.args.out.now) (g.W.Write.contents c.loop-latest.out) (g.W.Write.contents c.write_page.new.out) c.loop-latest.rows next c.loop-latest.invariant.0 c.write_page.ensures.stays c.loop-latest.invariant.3 c.in_ok-next.ensures.writes c.in_ok-next.ensures.rows,
    )
