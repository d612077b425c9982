use Rattle.std.proofs.Common.{ℕ, List, sym, subst}
use Rattle.std.specs.Prelude.{Result}
use Rattle.canary_base.specs.declared.writing.WriteFault.{WriteFault}
use Rattle.canary_wire.specs.Buffers.{bytes_held}
use Rattle.canary_base.specs.Writes.{Writes}
use Rattle.canary_once.specs.Messages.{desk_state}
use Rattle.canary_wire.specs.Dispositions.{reply_bytes}
use Rattle.canary_wire.specs.Serving.{Answers}
use Rattle.canary_wire.proofs.ServeLemmas.{answers_none, answers_more, answers_last, answers_until}
use Rattle.canary_wire.proofs.NextLemmas.{rejected_whole, rejected_short}
use Rattle.canary_wire.proofs.conversation.answer_next.Goals as goal

pub returns-in-Err : goal.returns-in-Err
returns-in-Err g c =
    let f = rw (c.in-Message.is, c.as_slice.ensures) at c.first_message.ensures in
    let ans = rw c.as_slice-bytes.ensures at c.answer.ensures in
    let a = ans f.0 f.1 in
    let w = g.W.Write.contents c.args.writer.now in
    let w1 = g.W.Write.contents c.answer.new.writer in
    let old = desk_state (g.C.Clock.tells c.args.clock.now) (g.B.Book.state c.args.book.now) in
    let new = desk_state (g.C.Clock.tells c.answer.new.clock) (g.B.Book.state c.answer.new.book) in
    let held = bytes_held c.args.buffer.now in
    let Q : Result (Unit {0}) WriteFault → Type 0 = λ r. Writes w w1 (reply_bytes a.0) r in
    answers_until w w w1 old old new held held c.in-Message.parts f.0 a.0 c.in-Err.field-0 (answers_none w old held) f.1 a.1 a.2 (subst Q c.in-Err.is a.3)

pub returns-then-parts : goal.returns-then-parts
returns-then-parts g c =
    let f = rw (c.in-Message.is, c.as_slice.ensures) at c.first_message.ensures in
    let ans = rw c.as_slice-bytes.ensures at c.answer.ensures in
    let a = ans f.0 f.1 in
    let w = g.W.Write.contents c.args.writer.now in
    let w1 = g.W.Write.contents c.answer.new.writer in
    let old = desk_state (g.C.Clock.tells c.args.clock.now) (g.B.Book.state c.args.book.now) in
    let new = desk_state (g.C.Clock.tells c.answer.new.clock) (g.B.Book.state c.answer.new.book) in
    let held = bytes_held c.args.buffer.now in
    let Q : Result (Unit {0}) WriteFault → Type 0 = λ r. Writes w w1 (reply_bytes a.0) r in
    answers_last w w w1 old old new held held c.in-Message.parts f.0 a.0 (answers_none w old held) f.1 a.1 a.2 (subst Q c.in_default.is a.3) c.if-parts.true

pub returns-else-parts : goal.returns-else-parts
returns-else-parts g c =
    let f = rw (c.in-Message.is, c.as_slice.ensures) at c.first_message.ensures in
    let ans = rw c.as_slice-bytes.ensures at c.answer.ensures in
    let a = ans f.0 f.1 in
    let w = g.W.Write.contents c.args.writer.now in
    let w1 = g.W.Write.contents c.answer.new.writer in
    let old = desk_state (g.C.Clock.tells c.args.clock.now) (g.B.Book.state c.args.book.now) in
    let new = desk_state (g.C.Clock.tells c.answer.new.clock) (g.B.Book.state c.answer.new.book) in
    let held = bytes_held c.args.buffer.now in
    let Q : Result (Unit {0}) WriteFault → Type 0 = λ r. Writes w w1 (reply_bytes a.0) r in
    let P : List ℕ → Type 0 = λ t. Answers w w1 old new held t in
    subst P (sym c.consume.ensures)
    (answers_more w w w1 old old new held held c.in-Message.parts f.0 a.0 (answers_none w old held) f.1 a.1 a.2 (subst Q c.in_default.is a.3) c.if-parts.false)

pub returns-in-Ok : goal.returns-in-Ok
returns-in-Ok g c =
    rejected_whole (g.W.Write.contents c.args.writer.now) (g.W.Write.contents c.reject.new.writer) (desk_state (g.C.Clock.tells c.args.clock.now) (g.B.Book.state c.args.book.now)) (bytes_held c.args.buffer.now)
    c.in-Rejected.rejection c.in-Rejected.head_alone (rw (c.in-Rejected.is, c.as_slice.ensures) at c.first_message.ensures) c.in-Ok.field-0 (rw c.in-Ok.is at c.reject.ensures)

pub returns-in-Err-reject : goal.returns-in-Err-reject
returns-in-Err-reject g c =
    rejected_short (g.W.Write.contents c.args.writer.now) (g.W.Write.contents c.reject.new.writer) (desk_state (g.C.Clock.tells c.args.clock.now) (g.B.Book.state c.args.book.now)) (bytes_held c.args.buffer.now)
    c.in-Rejected.rejection c.in-Rejected.head_alone (rw (c.in-Rejected.is, c.as_slice.ensures) at c.first_message.ensures) c.in-Err-reject.field-0 (rw c.in-Err-reject.is at c.reject.ensures)

pub returns-in-Unfinished : goal.returns-in-Unfinished
returns-in-Unfinished g c = (
  answers_none (g.W.Write.contents c.args.writer.now) (desk_state (g.C.Clock.tells c.args.clock.now) (g.B.Book.state c.args.book.now)) (bytes_held c.args.buffer.now),
  rw (c.in-Unfinished.is, c.as_slice.ensures) at c.first_message.ensures,
)
