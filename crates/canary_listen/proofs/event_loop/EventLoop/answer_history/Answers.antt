use Rattle.canary_once.specs.Messages.{desk_state}
use Rattle.canary_listen.specs.Crowd.{clients_attendance}
use Rattle.canary_listen.proofs.Attended.{attends_kept}
use Rattle.canary_listen.proofs.event_loop.EventLoop.answer_history.Goals as goal

pub returns-in_default : goal.returns-in_default
returns-in_default g c =
    let a = clients_attendance c.args.self.now.clients in
    attends_kept (desk_state (g.C.Clock.tells c.args.clock.now) (g.B.Book.state c.args.book.now)) a a (c.going_on.ensures.none c.args.clock.now c.args.book.now) (λ turns s. s)
