use Rattle.std.proofs.Common.{rules, subst, sym, Ok, Err}
use Rattle.sqlite.specs.Held.{state}
use Rattle.canary_once.specs.Contents.{IsSettling}
use Rattle.canary_once.specs.BookCalls.{Commits}
use Rattle.canary_tables_schema.specs.Stores.{IsUsable}
use Rattle.canary_tables.specs.Desk.{contents_in, book_state}
use Rattle.canary_tables.proofs.Booked.{settled_so, failed_so, failed_book}
use Rattle.canary_tables.proofs.book.TableBookBook.commit.Goals as goal

pub returns-in-Ok : goal.returns-in-Ok
returns-in-Ok g c =
    let settling = subst (λ h. IsUsable (state g.S.Store h) → IsSettling (contents_in (state g.S.Store h)) c.args.settlement) (sym c.self.view_is) c.requires in
    subst (λ h. Commits c.args.settlement (book_state g.S.Store h) (book_state g.S.Store c.commit.new.conn) (Ok tt)) c.self.view_is
    (settled_so g.S.Store c.settlements.ensures c.args.settlement c.self.inside.conn c.commit.new.conn c.self.inside.notes c.self.inside.cache (search rules) c.self.invariant settling c.commit.ensures.held c.in-Ok.ensures.desk c.in-Ok.ensures.settled)

pub returns-in-Err : goal.returns-in-Err
returns-in-Err g c =
    subst (λ h. Commits c.args.settlement (book_state g.S.Store h) (book_state g.S.Store c.commit.new.conn) (Err c.book_fault.result)) c.self.view_is
    (failed_so g.S.Store c.args.settlement c.self.inside.conn c.commit.new.conn c.self.inside.notes c.self.inside.cache c.book_fault.result c.self.invariant c.commit.ensures.held c.in-Err.ensures.failed)

pub invariant_of-self-in-Err : goal.invariant_of-self-in-Err
invariant_of-self-in-Err g c =
    failed_book g.S.Store c.self.inside.conn c.commit.new.conn c.self.inside.notes c.none-self-inside.result c.self.inside.cache c.forget.new.self c.none-self-inside.ensures c.self.invariant c.commit.ensures.mode c.commit.ensures.held c.in-Err.ensures.failed (λ usable. c.forget.ensures.kept _)
