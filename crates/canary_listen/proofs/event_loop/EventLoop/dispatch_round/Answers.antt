use Rattle.canary_once.specs.Messages.{desk_state}
use Rattle.canary_listen.specs.Crowd.{clients_attendance}
use Rattle.canary_listen.proofs.Attended.{attends_then}
use Rattle.canary_listen.proofs.event_loop.EventLoop.dispatch_round.Goals as goal

pub returns-then-has_history_due : goal.returns-then-has_history_due
returns-then-has_history_due g c =
    attends_then (desk_state (g.C.Clock.tells c.args.clock.now) (g.B.Book.state c.args.book.now))
    (desk_state (g.C.Clock.tells c.dispatch_all.new.clock) (g.B.Book.state c.dispatch_all.new.book))
    (desk_state (g.C.Clock.tells c.answer_history.new.clock) (g.B.Book.state c.answer_history.new.book))
    (clients_attendance c.args.self.now.clients) (clients_attendance c.dispatch_all.new.self.clients) (clients_attendance c.answer_history.new.self.clients)
    (c.going_on.ensures.then c.args.clock.now c.dispatch_all.new.clock c.answer_history.new.clock c.args.book.now c.dispatch_all.new.book c.answer_history.new.book)
    c.dispatch_all.ensures.attends c.answer_history.ensures
