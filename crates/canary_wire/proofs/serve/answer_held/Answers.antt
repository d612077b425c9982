use Rattle.std.proofs.Common.{ℕ, List, sym, subst}
use Rattle.std.specs.Prelude.{Result}
use Rattle.canary_base.specs.declared.writing.WriteFault.{WriteFault}
use Rattle.canary_wire.specs.Buffers.{bytes_held}
use Rattle.canary_base.specs.Writes.{Writes}
use Rattle.canary_once.specs.Messages.{desk_state}
use Rattle.canary_wire.specs.Dispositions.{reply_bytes}
use Rattle.canary_wire.specs.Serving.{Answers}
use Rattle.canary_wire.proofs.ServeLemmas.{answers_none, answers_more, answers_last, answers_until, answers_rejected}
use Rattle.canary_wire.proofs.serve.answer_held.Goals as goal

pub messages-init : goal.messages-init
messages-init g c =
    answers_none (g.W.Write.contents c.args.writer.now) (desk_state (g.C.Clock.tells c.args.clock.now) (g.B.Book.state c.args.book.now)) (bytes_held c.args.buffer.now)

pub returns-in-Err : goal.returns-in-Err
returns-in-Err g c =
    let f = rw (c.in-Message.is, c.as_slice.ensures) at c.first_message.ensures in
    let ans = rw c.as_slice-in-Message.ensures at c.answer.ensures in
    let a = ans f.0 f.1 in
    let Q : Result (Unit {0}) WriteFault → Type 0 = λ r. Writes (g.W.Write.contents c.messages.writer) (g.W.Write.contents c.answer.new.writer) (reply_bytes a.0) r in
    answers_until (g.W.Write.contents c.args.writer.now) (g.W.Write.contents c.messages.writer) (g.W.Write.contents c.answer.new.writer)
    (desk_state (g.C.Clock.tells c.args.clock.now) (g.B.Book.state c.args.book.now))
    (desk_state (g.C.Clock.tells c.messages.clock) (g.B.Book.state c.messages.book))
    (desk_state (g.C.Clock.tells c.answer.new.clock) (g.B.Book.state c.answer.new.book))
    (bytes_held c.args.buffer.now) (bytes_held c.messages.buffer) c.in-Message.parts f.0 a.0 c.in-Err.fault c.messages.invariant f.1 a.1 a.2 (subst Q c.in-Err.is a.3)

pub returns-then-parts : goal.returns-then-parts
returns-then-parts g c =
    let f = rw (c.in-Message.is, c.as_slice.ensures) at c.first_message.ensures in
    let ans = rw c.as_slice-in-Message.ensures at c.answer.ensures in
    let a = ans f.0 f.1 in
    let Q : Result (Unit {0}) WriteFault → Type 0 = λ r. Writes (g.W.Write.contents c.messages.writer) (g.W.Write.contents c.answer.new.writer) (reply_bytes a.0) r in
    answers_last (g.W.Write.contents c.args.writer.now) (g.W.Write.contents c.messages.writer) (g.W.Write.contents c.answer.new.writer)
    (desk_state (g.C.Clock.tells c.args.clock.now) (g.B.Book.state c.args.book.now))
    (desk_state (g.C.Clock.tells c.messages.clock) (g.B.Book.state c.messages.book))
    (desk_state (g.C.Clock.tells c.answer.new.clock) (g.B.Book.state c.answer.new.book))
    (bytes_held c.args.buffer.now) (bytes_held c.messages.buffer) c.in-Message.parts f.0 a.0 c.messages.invariant f.1 a.1 a.2 (subst Q c.in_default.is a.3) c.if-parts.true

pub messages-preserved : goal.messages-preserved
messages-preserved g c =
    let f = rw (c.in-Message.is, c.as_slice.ensures) at c.first_message.ensures in
    let ans = rw c.as_slice-in-Message.ensures at c.answer.ensures in
    let a = ans f.0 f.1 in
    let old = desk_state (g.C.Clock.tells c.args.clock.now) (g.B.Book.state c.args.book.now) in
    let new = desk_state (g.C.Clock.tells c.answer.new.clock) (g.B.Book.state c.answer.new.book) in
    let Q : Result (Unit {0}) WriteFault → Type 0 = λ r. Writes (g.W.Write.contents c.messages.writer) (g.W.Write.contents c.answer.new.writer) (reply_bytes a.0) r in
    let P : List ℕ → Type 0 = λ t. Answers (g.W.Write.contents c.args.writer.now) (g.W.Write.contents c.answer.new.writer) old new (bytes_held c.args.buffer.now) t in
    let so =
    answers_more (g.W.Write.contents c.args.writer.now) (g.W.Write.contents c.messages.writer) (g.W.Write.contents c.answer.new.writer)
    old
    (desk_state (g.C.Clock.tells c.messages.clock) (g.B.Book.state c.messages.book))
    new
    (bytes_held c.args.buffer.now) (bytes_held c.messages.buffer) c.in-Message.parts f.0 a.0 c.messages.invariant f.1 a.1 a.2 (subst Q c.in_default.is a.3) c.if-parts.false in
    subst P (sym c.consume.ensures) so

pub returns-in-Rejected : goal.returns-in-Rejected
returns-in-Rejected g c =
    answers_rejected (g.W.Write.contents c.args.writer.now) (g.W.Write.contents c.messages.writer) (g.W.Write.contents c.reject.new.writer)
    (desk_state (g.C.Clock.tells c.args.clock.now) (g.B.Book.state c.args.book.now))
    (desk_state (g.C.Clock.tells c.messages.clock) (g.B.Book.state c.messages.book))
    (bytes_held c.args.buffer.now) (bytes_held c.messages.buffer) (bytes_held c.messages.buffer) c.in-Rejected.rejection c.in-Rejected.head_alone c.reject.result c.messages.invariant
    (rw (c.in-Rejected.is, c.as_slice.ensures) at c.first_message.ensures) c.reject.ensures
