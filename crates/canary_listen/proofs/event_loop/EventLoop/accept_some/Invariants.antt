use Rattle.canary_listen.specs.Attending.{KeepsServed}
use Rattle.canary_listen.specs.Crowd.{clients_attendance}
use Rattle.canary_listen.proofs.event_loop.EventLoop.accept_some.Given as goal

abbrev pub invariant-batch : goal.invariant-batch
invariant-batch l = KeepsServed (clients_attendance l.fn.self.clients) (clients_attendance l.self.clients)
