use Rattle.canary_once.specs.Messages.{desk_state}
use Rattle.canary_listen.specs.Attending.{Attends}
use Rattle.canary_listen.specs.Crowd.{attendance_of}
use Rattle.canary_listen.proofs.listener.Listener.serve.Given as goal

abbrev pub invariant-rounds : goal.invariant-rounds
invariant-rounds g l =
    Attends (desk_state (g.C.Clock.tells l.fn.clock) (g.B.Book.state l.fn.book)) (desk_state (g.C.Clock.tells l.clock) (g.B.Book.state l.book))
    (attendance_of l.fn.self) (attendance_of l.self)
