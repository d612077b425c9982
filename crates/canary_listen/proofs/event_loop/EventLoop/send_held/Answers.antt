use Rattle.std.proofs.Common.{arith}
use Rattle.canary_once.specs.Messages.{desk_state}
use Rattle.canary_listen.specs.Crowd.{clients_attendance}
use Rattle.canary_listen.proofs.Attended.{attends_kept, attends_then}
use Rattle.canary_listen.proofs.event_loop.EventLoop.send_held.Goals as goal

pub held-init : goal.held-init
held-init g c =
    let a = clients_attendance c.args.self.now.clients in
    (attends_kept (desk_state (g.C.Clock.tells c.args.clock.now) (g.B.Book.state c.args.book.now)) a a (c.going_on.ensures.none c.args.clock.now c.args.book.now) (λ turns s. s), omega arith)

pub held-preserved : goal.held-preserved
held-preserved g c =
    let so_far = c.held.invariant.1 in
    let fewer = c.send_first.ensures.fewer in
    let most = c.held-test.true in (
      attends_then (desk_state (g.C.Clock.tells c.args.clock.now) (g.B.Book.state c.args.book.now))
          (desk_state (g.C.Clock.tells c.held.clock) (g.B.Book.state c.held.book))
          (desk_state (g.C.Clock.tells c.send_first.new.clock) (g.B.Book.state c.send_first.new.book))
          (clients_attendance c.args.self.now.clients) (clients_attendance c.held.self.clients) (clients_attendance c.send_first.new.self.clients)
          (c.going_on.ensures.then c.args.clock.now c.held.clock c.send_first.new.clock c.args.book.now c.held.book c.send_first.new.book)
          c.held.invariant.0 c.send_first.ensures.attends,
      omega (arith, so_far, fewer, most),
    )
