use Rattle.std.proofs.Common.{rules, subst}
use Rattle.canary_once.specs.Contents.{templates_named}
use Rattle.canary_once.specs.BookCalls.{Finds}
use Rattle.canary_tables.specs.Desk.{book_state}
use Rattle.canary_tables.proofs.Booked.{finds, book_keeps}
use Rattle.canary_tables.proofs.book.TableBookBook.templates.Goals as goal

pub returns : goal.returns
returns g c =
    subst (λ h. Finds (λ k. templates_named k c.args.names.now) (book_state g.S.Store h) (book_state g.S.Store c.templates.new.conn) c.map_err.result) c.self.view_is
    (finds g.S.Store (λ k. templates_named k c.args.names.now) c.self.inside.conn c.templates.new.conn c.self.inside.notes c.self.inside.cache c.map_err.result c.self.invariant c.templates.ensures.reads.same (λ usable. search rules))

pub invariant_of-self : goal.invariant_of-self
invariant_of-self g c = book_keeps g.S.Store c.self.inside.conn c.templates.new.conn c.self.inside.notes c.self.inside.cache c.templates.new.kept c.self.invariant c.templates.ensures.reads.mode c.templates.ensures.reads.same c.templates.ensures.kept
