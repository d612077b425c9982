use Rattle.canary_once.specs.Messages.{desk_state}
use Rattle.canary_listen.specs.Attending.{Attends}
use Rattle.canary_listen.specs.Crowd.{clients_attendance}
use Rattle.canary_listen.proofs.event_loop.EventLoop.dispatch_all.Given as goal

abbrev pub invariant-events : goal.invariant-events
invariant-events g l =
    Attends (desk_state (g.C.Clock.tells l.fn.clock) (g.B.Book.state l.fn.book)) (desk_state (g.C.Clock.tells l.clock) (g.B.Book.state l.book))
    (clients_attendance l.fn.self.clients) (clients_attendance l.self.clients)
