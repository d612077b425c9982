use Rattle.canary_wire.specs.Buffers.{bytes_held}
use Rattle.canary_once.specs.Messages.{desk_state}
use Rattle.canary_wire.specs.Serving.{IsSoFar}
use Rattle.canary_wire.proofs.serve.serve_turns.Given as goal

abbrev pub invariant-turns : goal.invariant-turns
invariant-turns g l =
    IsSoFar (g.R.Read.remaining l.fn.reader) (g.R.Read.remaining l.reader) (g.W.Write.contents l.fn.writer) (g.W.Write.contents l.writer)
    (desk_state (g.C.Clock.tells l.fn.clock) (g.B.Book.state l.fn.book))
    (desk_state (g.C.Clock.tells l.clock) (g.B.Book.state l.book))
    l._turn (bytes_held l.buffer)
