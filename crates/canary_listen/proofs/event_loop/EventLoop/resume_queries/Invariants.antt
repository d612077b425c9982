use Rattle.canary_listen.specs.Attending.{KeepsServed}
use Rattle.canary_listen.specs.Crowd.{clients_attendance}
use Rattle.canary_listen.proofs.event_loop.EventLoop.resume_queries.Given as goal

abbrev pub invariant-waiting : goal.invariant-waiting
invariant-waiting l = KeepsServed (clients_attendance l.fn.self.clients) (clients_attendance l.self.clients)
