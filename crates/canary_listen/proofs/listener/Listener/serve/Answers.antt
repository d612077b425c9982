use Rattle.canary_once.specs.Messages.{desk_state}
use Rattle.canary_listen.specs.Crowd.{attendance_of}
use Rattle.canary_listen.proofs.Attended.{attends_kept, attends_then, serves_all}
use Rattle.canary_listen.proofs.listener.Listener.serve.Goals as goal

pub rounds-init : goal.rounds-init
rounds-init g c =
    let a = attendance_of c.args.self.now in
    attends_kept (desk_state (g.C.Clock.tells c.args.clock.now) (g.B.Book.state c.args.book.now)) a a (c.going_on.ensures.none c.args.clock.now c.args.book.now) (λ turns s. s)

pub rounds-preserved : goal.rounds-preserved
rounds-preserved g c =
    attends_then (desk_state (g.C.Clock.tells c.args.clock.now) (g.B.Book.state c.args.book.now))
    (desk_state (g.C.Clock.tells c.rounds.clock) (g.B.Book.state c.rounds.book))
    (desk_state (g.C.Clock.tells c.round.new.clock) (g.B.Book.state c.round.new.book))
    (attendance_of c.args.self.now) (attendance_of c.rounds.self) (attendance_of c.round.new.self)
    (c.going_on.ensures.then c.args.clock.now c.rounds.clock c.round.new.clock c.args.book.now c.rounds.book c.round.new.book)
    c.rounds.invariant c.round.ensures

pub returns-in-Err-clause-attends : goal.returns-in-Err-clause-attends
returns-in-Err-clause-attends g c =
    attends_then (desk_state (g.C.Clock.tells c.args.clock.now) (g.B.Book.state c.args.book.now))
    (desk_state (g.C.Clock.tells c.rounds.clock) (g.B.Book.state c.rounds.book))
    (desk_state (g.C.Clock.tells c.round.new.clock) (g.B.Book.state c.round.new.book))
    (attendance_of c.args.self.now) (attendance_of c.rounds.self) (attendance_of c.round.new.self)
    (c.going_on.ensures.then c.args.clock.now c.rounds.clock c.round.new.clock c.args.book.now c.rounds.book c.round.new.book)
    c.rounds.invariant c.round.ensures

pub returns-in-Err-clause-serves : goal.returns-in-Err-clause-serves
returns-in-Err-clause-serves g c = λ e.
    serves_all (desk_state (g.C.Clock.tells c.args.clock.now) (g.B.Book.state c.args.book.now))
    (desk_state (g.C.Clock.tells c.round.new.clock) (g.B.Book.state c.round.new.book))
    (attendance_of c.args.self.now) (attendance_of c.round.new.self) e
    (attends_then (desk_state (g.C.Clock.tells c.args.clock.now) (g.B.Book.state c.args.book.now))
    (desk_state (g.C.Clock.tells c.rounds.clock) (g.B.Book.state c.rounds.book))
    (desk_state (g.C.Clock.tells c.round.new.clock) (g.B.Book.state c.round.new.book))
    (attendance_of c.args.self.now) (attendance_of c.rounds.self) (attendance_of c.round.new.self)
    (c.going_on.ensures.then c.args.clock.now c.rounds.clock c.round.new.clock c.args.book.now c.rounds.book c.round.new.book)
    c.rounds.invariant c.round.ensures)
    (c.going_on.ensures.holds c.args.clock.now c.round.new.clock c.args.book.now c.round.new.book)

pub returns-then-is_done-clause-serves : goal.returns-then-is_done-clause-serves
returns-then-is_done-clause-serves g c = λ e.
    serves_all (desk_state (g.C.Clock.tells c.args.clock.now) (g.B.Book.state c.args.book.now))
    (desk_state (g.C.Clock.tells c.rounds.clock) (g.B.Book.state c.rounds.book))
    (attendance_of c.args.self.now) (attendance_of c.rounds.self) e c.rounds.invariant
    (c.going_on.ensures.holds c.args.clock.now c.rounds.clock c.args.book.now c.rounds.book)

pub returns-clause-serves : goal.returns-clause-serves
returns-clause-serves g c = λ e.
    serves_all (desk_state (g.C.Clock.tells c.args.clock.now) (g.B.Book.state c.args.book.now))
    (desk_state (g.C.Clock.tells c.rounds.clock) (g.B.Book.state c.rounds.book))
    (attendance_of c.args.self.now) (attendance_of c.rounds.self) e c.rounds.invariant
    (c.going_on.ensures.holds c.args.clock.now c.rounds.clock c.args.book.now c.rounds.book)
