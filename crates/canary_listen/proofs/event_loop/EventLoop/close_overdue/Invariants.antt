use Rattle.canary_listen.specs.Attending.{KeepsServed}
use Rattle.canary_listen.specs.Crowd.{clients_attendance}
use Rattle.canary_listen.proofs.event_loop.EventLoop.close_overdue.Given as goal

abbrev pub invariant-late : goal.invariant-late
invariant-late l = KeepsServed (clients_attendance l.fn.self.clients) (clients_attendance l.self.clients)
