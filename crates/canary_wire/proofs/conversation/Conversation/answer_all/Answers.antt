use Rattle.std.proofs.Common.{◌∙◌}
use Rattle.canary_wire.specs.Talks.{talk_of}
use Rattle.canary_once.specs.Messages.{desk_state}
use Rattle.canary_wire.proofs.OrderLemmas.{more_then}
use Rattle.canary_wire.proofs.conversation.Conversation.answer_all.Goals as goal

pub steps-preserved : goal.steps-preserved
steps-preserved g c = (
  more_then (desk_state (g.C.Clock.tells c.args.clock.now) (g.B.Book.state c.args.book.now))
      (desk_state (g.C.Clock.tells c.steps.clock) (g.B.Book.state c.steps.book))
      (desk_state (g.C.Clock.tells c.advance-step-in-steps.new.clock) (g.B.Book.state c.advance-step-in-steps.new.book))
      (talk_of c.args.self.now) (talk_of c.steps.self) (talk_of c.advance-step-in-steps.new.self) c.steps.invariant.0 c.advance-step-in-steps.ensures.answers,
  c.advance-step-in-steps.ensures.stands,
  (λ over.
      let before = c.steps.invariant.2 over in
      let after = c.advance-step-in-steps.ensures.rest before.0 in
      (after.0, after.1 ∙ before.1, after.2 ∙ before.2)),
)
