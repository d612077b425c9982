use Rattle.std.proofs.Common.{rules, subst}
use Rattle.canary_once.specs.Contents.{receipt_at}
use Rattle.canary_once.specs.BookCalls.{Finds}
use Rattle.canary_tables.specs.Desk.{book_state}
use Rattle.canary_tables.proofs.Booked.{finds, book_keeps}
use Rattle.canary_tables.proofs.book.TableBookBook.receipt.Goals as goal

pub returns : goal.returns
returns g c =
    subst (λ h. Finds (λ k. receipt_at k c.args.caller.now c.args.number) (book_state g.S.Store h) (book_state g.S.Store c.receipt.new.conn) c.map_err.result) c.self.view_is
    (finds g.S.Store (λ k. receipt_at k c.args.caller.now c.args.number) c.self.inside.conn c.receipt.new.conn c.self.inside.notes c.self.inside.cache c.map_err.result c.self.invariant c.receipt.ensures.reads.same (λ usable. search rules))

pub invariant_of-self : goal.invariant_of-self
invariant_of-self g c = book_keeps g.S.Store c.self.inside.conn c.receipt.new.conn c.self.inside.notes c.self.inside.cache c.receipt.new.kept c.self.invariant c.receipt.ensures.reads.mode c.receipt.ensures.reads.same c.receipt.ensures.kept
