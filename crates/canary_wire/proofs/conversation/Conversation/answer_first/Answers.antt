use Rattle.std.proofs.Common.{sym, subst}
use Rattle.canary_wire.specs.declared.conversation.StepResult.{StepResult}
use Rattle.canary_wire.specs.Buffers.{bytes_held}
use Rattle.canary_wire.specs.Unsent.{bytes_unsent}
use Rattle.canary_wire.specs.Conversing.{talk, StandsAt}
use Rattle.canary_once.specs.Messages.{desk_state}
use Rattle.canary_wire.proofs.OrderLemmas.{more_open, more_over, more_broken}
use Rattle.canary_wire.proofs.conversation.Conversation.answer_first.Goals as goal

pub returns-in-Answered-clause-answers : goal.returns-in-Answered-clause-answers
returns-in-Answered-clause-answers g c =
    more_open (desk_state (g.C.Clock.tells c.args.clock.now) (g.B.Book.state c.args.book.now)) (desk_state (g.C.Clock.tells c.answer_next-step.new.clock) (g.B.Book.state c.answer_next-step.new.book))
    (bytes_held c.args.self.now.buffer) (bytes_held c.answer_next-step.new.buffer) (bytes_unsent c.args.self.now.unsent) (bytes_unsent c.answer_next-step.new.writer)
    c.args.self.now.stage
    c.args.self.now.stage c.requires.open c.requires.open c.in-Answered.ensures

pub returns-in-Waits-clause-answers : goal.returns-in-Waits-clause-answers
returns-in-Waits-clause-answers g c =
    more_open (desk_state (g.C.Clock.tells c.args.clock.now) (g.B.Book.state c.args.book.now)) (desk_state (g.C.Clock.tells c.answer_next-step.new.clock) (g.B.Book.state c.answer_next-step.new.book))
    (bytes_held c.args.self.now.buffer) (bytes_held c.answer_next-step.new.buffer) (bytes_unsent c.args.self.now.unsent) (bytes_unsent c.answer_next-step.new.writer)
    c.args.self.now.stage
    c.args.self.now.stage c.requires.open c.requires.open c.in-Waits.ensures.0

pub returns-in-Waits-clause-stands : goal.returns-in-Waits-clause-stands
returns-in-Waits-clause-stands g c =
    let P : StepResult → Type 0 = StandsAt (talk (bytes_held c.answer_next-step.new.buffer) (bytes_unsent c.answer_next-step.new.writer) c.args.self.now.stage) in
    subst P (sym c.in-Waits.is) (c.requires.open, c.in-Waits.ensures.1)

pub returns-in-Closed-clause-answers : goal.returns-in-Closed-clause-answers
returns-in-Closed-clause-answers g c =
    more_over (desk_state (g.C.Clock.tells c.args.clock.now) (g.B.Book.state c.args.book.now)) (desk_state (g.C.Clock.tells c.answer_next-step.new.clock) (g.B.Book.state c.answer_next-step.new.book))
    (bytes_held c.args.self.now.buffer) (bytes_held c.answer_next-step.new.buffer) (bytes_unsent c.args.self.now.unsent) (bytes_unsent c.answer_next-step.new.writer)
    c.args.self.now.stage c.requires.open c.in-Closed.ensures

pub returns-in-Broke-clause-answers : goal.returns-in-Broke-clause-answers
returns-in-Broke-clause-answers g c =
    more_broken (desk_state (g.C.Clock.tells c.args.clock.now) (g.B.Book.state c.args.book.now)) (desk_state (g.C.Clock.tells c.answer_next-step.new.clock) (g.B.Book.state c.answer_next-step.new.book))
    (bytes_held c.args.self.now.buffer) (bytes_held c.answer_next-step.new.buffer) (bytes_unsent c.args.self.now.unsent) (bytes_unsent c.answer_next-step.new.writer)
    c.args.self.now.stage c.requires.open c.in-Broke.ensures
