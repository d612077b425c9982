use Rattle.std.proofs.Common.{rules, subst, Ok, Err}
use Rattle.sqlite.specs.Held.{state}
use Rattle.canary_once.specs.Records.{measurements_of}
use Rattle.canary_once.specs.BookCalls.{Finds}
use Rattle.canary_tables.specs.Desk.{book_state}
use Rattle.canary_tables.proofs.Booked.{finds}
use Rattle.canary_tables.proofs.Noted.{noted_place}
use Rattle.canary_tables.proofs.book.TableBookBook.measurements.Goals as goal

pub measurements-requires-clause-noted : goal.measurements-requires-clause-noted
measurements-requires-clause-noted g c = λ usable.
    noted_place (state g.S.Store c.self.inside.conn).now c.self.inside.notes c.args.name.now c.args.from c.place-place.result (c.self.invariant.noted usable) c.place-place.ensures

pub returns-in-Ok : goal.returns-in-Ok
returns-in-Ok g c =
    subst (λ h. Finds (λ k. measurements_of k c.args.name.now c.args.from c.args.most) (book_state g.S.Store h) (book_state g.S.Store c.measurements.new.conn) (Ok c.in-Ok.page.recorded)) c.self.view_is
    (finds g.S.Store (λ k. measurements_of k c.args.name.now c.args.from c.args.most) c.self.inside.conn c.measurements.new.conn c.self.inside.notes c.self.inside.cache (Ok c.in-Ok.page.recorded) c.self.invariant c.measurements.ensures.reads.same (λ usable. search rules))

pub returns-in-Err : goal.returns-in-Err
returns-in-Err g c =
    subst (λ h. Finds (λ k. measurements_of k c.args.name.now c.args.from c.args.most) (book_state g.S.Store h) (book_state g.S.Store c.measurements.new.conn) (Err c.book_fault.result)) c.self.view_is
    (finds g.S.Store (λ k. measurements_of k c.args.name.now c.args.from c.args.most) c.self.inside.conn c.measurements.new.conn c.self.inside.notes c.self.inside.cache (Err c.book_fault.result) c.self.invariant c.measurements.ensures.reads.same (λ usable. search rules))
