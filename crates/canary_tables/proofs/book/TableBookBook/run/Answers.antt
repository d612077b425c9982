use Rattle.std.proofs.Common.{rules, subst}
use Rattle.canary_once.specs.Records.{run_of}
use Rattle.canary_once.specs.BookCalls.{Finds}
use Rattle.canary_tables.specs.Desk.{book_state}
use Rattle.canary_tables.proofs.Booked.{finds, still_book}
use Rattle.canary_tables.proofs.book.TableBookBook.run.Goals as goal

pub returns : goal.returns
returns g c =
    subst (λ h. Finds (λ k. run_of k c.args.name.now c.args.number) (book_state g.S.Store h) (book_state g.S.Store c.run.new.conn) c.map_err.result) c.self.view_is
    (finds g.S.Store (λ k. run_of k c.args.name.now c.args.number) c.self.inside.conn c.run.new.conn c.self.inside.notes c.self.inside.cache c.map_err.result c.self.invariant c.run.ensures.reads.same (λ usable. search rules))

pub invariant_of-self : goal.invariant_of-self
invariant_of-self g c = still_book g.S.Store c.self.inside.conn c.run.new.conn c.self.inside.notes c.self.inside.cache c.self.invariant c.run.ensures.reads.mode c.run.ensures.reads.same
