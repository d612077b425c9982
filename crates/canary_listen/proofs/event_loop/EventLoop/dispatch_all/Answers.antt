use Rattle.canary_once.specs.Messages.{desk_state}
use Rattle.canary_listen.specs.Crowd.{clients_attendance}
use Rattle.canary_listen.proofs.Attended.{attends_kept, attends_then}
use Rattle.canary_listen.proofs.event_loop.EventLoop.dispatch_all.Goals as goal

pub events-init : goal.events-init
events-init g c =
    let a = clients_attendance c.args.self.now.clients in
    attends_kept (desk_state (g.C.Clock.tells c.args.clock.now) (g.B.Book.state c.args.book.now)) a a (c.going_on.ensures.none c.args.clock.now c.args.book.now) (λ turns s. s)

pub events-preserved : goal.events-preserved
events-preserved g c =
    attends_then (desk_state (g.C.Clock.tells c.args.clock.now) (g.B.Book.state c.args.book.now))
    (desk_state (g.C.Clock.tells c.events.clock) (g.B.Book.state c.events.book))
    (desk_state (g.C.Clock.tells c.dispatch_next.new.clock) (g.B.Book.state c.dispatch_next.new.book))
    (clients_attendance c.args.self.now.clients) (clients_attendance c.events.self.clients) (clients_attendance c.dispatch_next.new.self.clients)
    (c.going_on.ensures.then c.args.clock.now c.events.clock c.dispatch_next.new.clock c.args.book.now c.events.book c.dispatch_next.new.book)
    c.events.invariant c.dispatch_next.ensures

pub returns-clause-attends : goal.returns-clause-attends
returns-clause-attends g c =
    attends_then (desk_state (g.C.Clock.tells c.args.clock.now) (g.B.Book.state c.args.book.now))
    (desk_state (g.C.Clock.tells c.events.clock) (g.B.Book.state c.events.book))
    (desk_state (g.C.Clock.tells c.send_held.new.clock) (g.B.Book.state c.send_held.new.book))
    (clients_attendance c.args.self.now.clients) (clients_attendance c.events.self.clients) (clients_attendance c.send_held.new.self.clients)
    (c.going_on.ensures.then c.args.clock.now c.events.clock c.send_held.new.clock c.args.book.now c.events.book c.send_held.new.book)
    c.events.invariant c.send_held.ensures.attends
