use Rattle.std.proofs.Common.{sym, subst}
use Rattle.canary_once.specs.Messages.{DeskState, desk_state}
use Rattle.canary_listen.specs.declared.event_loop.EventLoop.{EventLoop}
use Rattle.canary_listen.specs.Attending.{Attends}
use Rattle.canary_listen.specs.Crowd.{clients_attendance}
use Rattle.canary_listen.proofs.Attended.{attends_and_keeps, attends_then}
use Rattle.canary_listen.proofs.event_loop.EventLoop.dispatch_next.Goals as goal
use Rattle.canary_listen.proofs.event_loop.EventLoop.dispatch_next.Goals.{then-ready, else-ready}

pub returns : goal.returns
returns g c =
    let p : DeskState = desk_state (g.C.Clock.tells c.args.clock.now) (g.B.Book.state c.args.book.now) in
    let q : DeskState = desk_state (g.C.Clock.tells c.send_due.new.clock) (g.B.Book.state c.send_due.new.book) in
    let P : EventLoop → Type 0 = λ s. Attends p q (clients_attendance c.args.self.now.clients) (clients_attendance s.clients) in
    let left : P c.if-ready.self = elim c.if-ready.branch [
      | then-ready w ↦ subst P (sym w.self-is)
          (attends_and_keeps p q (clients_attendance c.args.self.now.clients) (clients_attendance c.send_due.new.self.clients) (clients_attendance w.leave_queue.new.self.clients)
          c.send_due.ensures w.leave_queue.ensures)
      | else-ready w ↦ subst P (sym w.self-is) c.send_due.ensures
    ] in
    attends_then p q (desk_state (g.C.Clock.tells c.dispatch.new.clock) (g.B.Book.state c.dispatch.new.book))
    (clients_attendance c.args.self.now.clients) (clients_attendance c.if-ready.self.clients) (clients_attendance c.dispatch.new.self.clients)
    (c.going_on.ensures.then c.args.clock.now c.send_due.new.clock c.dispatch.new.clock c.args.book.now c.send_due.new.book c.dispatch.new.book)
    left c.dispatch.ensures.attends
