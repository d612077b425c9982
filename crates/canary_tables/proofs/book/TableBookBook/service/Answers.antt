use Rattle.std.proofs.Common.{rules, subst}
use Rattle.canary_release.specs.Stored.{stored_service}
use Rattle.canary_once.specs.BookCalls.{Finds}
use Rattle.canary_tables.specs.Desk.{book_state}
use Rattle.canary_tables.proofs.Booked.{finds, book_keeps}
use Rattle.canary_tables.proofs.book.TableBookBook.service.Goals as goal

pub returns : goal.returns
returns g c =
    subst (λ h. Finds (λ k. stored_service k.desk c.args.name.now) (book_state g.S.Store h) (book_state g.S.Store c.service.new.conn) c.map_err.result) c.self.view_is
    (finds g.S.Store (λ k. stored_service k.desk c.args.name.now) c.self.inside.conn c.service.new.conn c.self.inside.notes c.self.inside.cache c.map_err.result c.self.invariant c.service.ensures.reads.same (λ usable. search rules))

pub invariant_of-self : goal.invariant_of-self
invariant_of-self g c = book_keeps g.S.Store c.self.inside.conn c.service.new.conn c.self.inside.notes c.self.inside.cache c.service.new.kept c.self.invariant c.service.ensures.reads.mode c.service.ensures.reads.same c.service.ensures.kept
