use Rattle.canary_once.specs.Messages.{desk_state}
use Rattle.canary_once.proofs.MessageLemmas.{went_none, went_then, holds_of}
use Rattle.canary_wire.proofs.laws.going_on.Goals as goal

pub returns-clause-none : goal.returns-clause-none
returns-clause-none g c = λ k b. went_none (desk_state (g.C.Clock.tells k) (g.B.Book.state b))

pub returns-clause-then : goal.returns-clause-then
returns-clause-then g c = λ k d e f h i xs ys before now.
    went_then (desk_state (g.C.Clock.tells k) (g.B.Book.state f)) (desk_state (g.C.Clock.tells d) (g.B.Book.state h))
    (desk_state (g.C.Clock.tells e) (g.B.Book.state i)) xs ys before now

pub returns-clause-holds : goal.returns-clause-holds
returns-clause-holds g c = λ k d f h xs went.
    holds_of c.running_on.ensures (desk_state (g.C.Clock.tells k) (g.B.Book.state f)) (desk_state (g.C.Clock.tells d) (g.B.Book.state h)) xs went
