use Rattle.canary_once.specs.Messages.{desk_state}
use Rattle.canary_files.proofs.AgainLemmas.{afterwards, settled, again}
use Rattle.canary_files.proofs.laws.again.Goals as goal

pub returns-clause-afterwards : goal.returns-clause-afterwards
returns-clause-afterwards g c = λ k d f h.
    afterwards c.one_request.ensures c.running_on.ensures c.same_commands.ensures
    (desk_state (g.C.Clock.tells k) (g.B.Book.state f)) (desk_state (g.C.Clock.tells d) (g.B.Book.state h))

pub returns-clause-settled : goal.returns-clause-settled
returns-clause-settled g c = λ k d f h.
    settled c.one_request.ensures c.running_on.ensures
    (desk_state (g.C.Clock.tells k) (g.B.Book.state f)) (desk_state (g.C.Clock.tells d) (g.B.Book.state h))

pub returns-clause-again : goal.returns-clause-again
returns-clause-again g c = λ k d e l f h i j.
    again c.one_request.ensures c.running_on.ensures c.same_commands.ensures
    (desk_state (g.C.Clock.tells k) (g.B.Book.state f)) (desk_state (g.C.Clock.tells d) (g.B.Book.state h))
    (desk_state (g.C.Clock.tells e) (g.B.Book.state i)) (desk_state (g.C.Clock.tells l) (g.B.Book.state j))
