use Rattle.std.proofs.Common.{◌≡◌, ◌+◌}
use Rattle.std.specs.VecDeque.{deque_len}
use Rattle.canary_once.specs.Messages.{desk_state}
use Rattle.canary_listen.specs.Attending.{Attends}
use Rattle.canary_listen.specs.Crowd.{clients_attendance}
use Rattle.canary_listen.proofs.event_loop.EventLoop.send_held.Given as goal

abbrev pub invariant-held : goal.invariant-held
invariant-held g l =
    Attends (desk_state (g.C.Clock.tells l.fn.clock) (g.B.Book.state l.fn.book)) (desk_state (g.C.Clock.tells l.clock) (g.B.Book.state l.book))
    (clients_attendance l.fn.self.clients) (clients_attendance l.self.clients)
    × (deque_len l.self.held + l.sent ≡ deque_len l.fn.self.held)
