use Rattle.std.proofs.Common.{◌≡◌}
use Rattle.canary_wire.specs.Talks.{talk_of}
use Rattle.canary_once.specs.Messages.{desk_state}
use Rattle.canary_wire.specs.Conversing.{AnswersMore, StandsAt, IsOver}
use Rattle.canary_wire.proofs.conversation.Conversation.answer_all.Given as goal

abbrev pub invariant-steps : goal.invariant-steps
invariant-steps g l =
    AnswersMore
    (desk_state (g.C.Clock.tells l.fn.clock) (g.B.Book.state l.fn.book))
    (desk_state (g.C.Clock.tells l.clock) (g.B.Book.state l.book))
    (talk_of l.fn.self) (talk_of l.self)
    × StandsAt (talk_of l.self) l.step
    × (IsOver (talk_of l.fn.self) → IsOver (talk_of l.self)
    × (l.clock ≡ l.fn.clock) × (l.book ≡ l.fn.book))
