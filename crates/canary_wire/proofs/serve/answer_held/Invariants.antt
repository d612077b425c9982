use Rattle.std.proofs.Common.{length}
use Rattle.canary_wire.specs.Buffers.{bytes_held}
use Rattle.canary_once.specs.Messages.{desk_state}
use Rattle.canary_wire.specs.Serving.{Answers}
use Rattle.canary_wire.proofs.serve.answer_held.Given as goal

abbrev pub invariant-messages : goal.invariant-messages
invariant-messages g l =
    Answers (g.W.Write.contents l.fn.writer) (g.W.Write.contents l.writer)
    (desk_state (g.C.Clock.tells l.fn.clock) (g.B.Book.state l.fn.book))
    (desk_state (g.C.Clock.tells l.clock) (g.B.Book.state l.book))
    (bytes_held l.fn.buffer) (bytes_held l.buffer)

abbrev pub decreases-messages : goal.decreases-messages
decreases-messages g l = length (bytes_held l.buffer)
