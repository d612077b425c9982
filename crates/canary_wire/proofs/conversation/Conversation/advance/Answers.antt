use Rattle.std.proofs.Common.{ℕ, List, sym, subst}
use Rattle.canary_wire.specs.Buffers.{bytes_held}
use Rattle.canary_wire.specs.Talks.{talk_of}
use Rattle.canary_once.specs.Messages.{desk_state}
use Rattle.canary_wire.specs.Conversing.{talk, AnswersMore}
use Rattle.canary_wire.proofs.OrderLemmas.{more_none}
use Rattle.canary_wire.proofs.conversation.Conversation.advance.Goals as goal

pub returns-in-Err-clause-answers : goal.returns-in-Err-clause-answers
returns-in-Err-clause-answers g c =
    let p = desk_state (g.C.Clock.tells c.args.clock.now) (g.B.Book.state c.args.book.now) in
    let s = c.args.self.now in
    let P : List ℕ → Type 0 = λ unsent. AnswersMore p p (talk_of s) (talk (bytes_held s.buffer) unsent s.stage) in
    subst P (sym c.make_room.ensures.same) (more_none p (talk_of s))

pub returns-clause-answers : goal.returns-clause-answers
returns-clause-answers g c =
    let s = c.args.self.now in
    let P : List ℕ → Type 0 = λ unsent.
    AnswersMore (desk_state (g.C.Clock.tells c.args.clock.now) (g.B.Book.state c.args.book.now))
    (desk_state (g.C.Clock.tells c.answer_first.new.clock) (g.B.Book.state c.answer_first.new.book))
    (talk (bytes_held s.buffer) unsent s.stage) (talk_of c.answer_first.new.self) in
    subst P c.make_room.ensures.same c.answer_first.ensures.answers
