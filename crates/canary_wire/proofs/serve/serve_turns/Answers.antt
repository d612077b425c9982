use Rattle.std.proofs.Common.{◌<◌, sym, ap, ◌∙◌, subst, length, arith}
use Rattle.std.specs.Prelude.{Ok}
use Rattle.canary_wire.specs.declared.serve.Ended.{Ended}
use Rattle.canary_wire.specs.Buffers.{bytes_held}
use Rattle.canary_once.specs.Messages.{desk_state}
use Rattle.canary_wire.specs.Serving.{ServesTo, end_of}
use Rattle.canary_wire.proofs.ServeLemmas.{so_far_none, so_far_more, so_far_all, so_far_until, so_far_open, so_far_spent, so_far_end}
use Rattle.canary_wire.proofs.serve.serve_turns.Goals as goal

pub turns-init : goal.turns-init
turns-init g c = so_far_none (g.R.Read.remaining c.args.reader.now) (g.W.Write.contents c.args.writer.now)
    (desk_state (g.C.Clock.tells c.args.clock.now) (g.B.Book.state c.args.book.now))
    (bytes_held c.args.buffer.now) c.requires.empty

pub returns-in_default : goal.returns-in_default
returns-in_default g c =
    let err = rw c.in_default.is at c.fill.ensures.err in
    so_far_open c.running_on.ensures (g.R.Read.remaining c.args.reader.now) (g.R.Read.remaining c.turns.reader) (g.R.Read.remaining c.fill.new.reader) (g.W.Write.contents c.args.writer.now) (g.W.Write.contents c.turns.writer)
    (desk_state (g.C.Clock.tells c.args.clock.now) (g.B.Book.state c.args.book.now))
    (desk_state (g.C.Clock.tells c.turns.clock) (g.B.Book.state c.turns.book))
    c.turns._turn (bytes_held c.turns.buffer) c.turns.invariant err.1

pub returns-then-count-eq0 : goal.returns-then-count-eq0
returns-then-count-eq0 g c =
    let more = rw c.in-Ok.is at c.fill.ensures.more in
    let P : Ended → Type 0 = λ t. ServesTo (g.R.Read.remaining c.args.reader.now) (g.R.Read.remaining c.fill.new.reader) (g.W.Write.contents c.args.writer.now) (g.W.Write.contents c.turns.writer)
    (desk_state (g.C.Clock.tells c.args.clock.now) (g.B.Book.state c.args.book.now))
    (desk_state (g.C.Clock.tells c.turns.clock) (g.B.Book.state c.turns.book)) t in
    let ends = so_far_end c.running_on.ensures (g.R.Read.remaining c.args.reader.now) (g.R.Read.remaining c.turns.reader) (g.R.Read.remaining c.fill.new.reader) (g.W.Write.contents c.args.writer.now) (g.W.Write.contents c.turns.writer)
    (desk_state (g.C.Clock.tells c.args.clock.now) (g.B.Book.state c.args.book.now))
    (desk_state (g.C.Clock.tells c.turns.clock) (g.B.Book.state c.turns.book))
    c.turns._turn (bytes_held c.turns.buffer) (bytes_held c.fill.new.self) more.0 c.turns.invariant more.1 more.2 (more.3 ∙ c.if-count-eq0.true) (c.fill.ensures.end (c.in-Ok.is ∙ ap Ok c.if-count-eq0.true)) in
    subst P (sym (c.end_of.ensures ∙ ap end_of c.as_slice.ensures)) ends

pub returns-in-Ok-Ends : goal.returns-in-Ok-Ends
returns-in-Ok-Ends g c =
    let more = rw c.in-Ok.is at c.fill.ensures.more in
    let a = rw c.in-Ok-Ends.field-0-is at c.in-Ok-Ends.ensures in
    so_far_all c.running_on.ensures (g.R.Read.remaining c.args.reader.now) (g.R.Read.remaining c.turns.reader) (g.R.Read.remaining c.fill.new.reader) (g.W.Write.contents c.args.writer.now) (g.W.Write.contents c.turns.writer)
    (desk_state (g.C.Clock.tells c.args.clock.now) (g.B.Book.state c.args.book.now))
    (desk_state (g.C.Clock.tells c.turns.clock) (g.B.Book.state c.turns.book))
    c.turns._turn (bytes_held c.turns.buffer) (bytes_held c.fill.new.self) more.0 c.turns.invariant more.1 more.2
    (g.W.Write.contents c.answer_held.new.writer)
    (desk_state (g.C.Clock.tells c.answer_held.new.clock) (g.B.Book.state c.answer_held.new.book))
    a

pub returns-in-Err : goal.returns-in-Err
returns-in-Err g c =
    let more = rw c.in-Ok.is at c.fill.ensures.more in
    so_far_until c.running_on.ensures (g.R.Read.remaining c.args.reader.now) (g.R.Read.remaining c.turns.reader) (g.R.Read.remaining c.fill.new.reader) (g.W.Write.contents c.args.writer.now) (g.W.Write.contents c.turns.writer)
    (desk_state (g.C.Clock.tells c.args.clock.now) (g.B.Book.state c.args.book.now))
    (desk_state (g.C.Clock.tells c.turns.clock) (g.B.Book.state c.turns.book))
    c.turns._turn (bytes_held c.turns.buffer) (bytes_held c.fill.new.self) more.0 c.turns.invariant more.1 more.2
    (g.W.Write.contents c.answer_held.new.writer)
    (desk_state (g.C.Clock.tells c.answer_held.new.clock) (g.B.Book.state c.answer_held.new.book))
    c.in-Err.ensures

pub turns-preserved : goal.turns-preserved
turns-preserved g c =
    let more = rw c.in-Ok.is at c.fill.ensures.more in
    let a = rw c.in-Ok-Continues.field-0-is at c.in-Ok-Continues.ensures in
    let some : 0 < length more.0 = (let none = c.if-count-eq0.false in let count = more.3 in omega arith) in
    so_far_more c.running_on.ensures (g.R.Read.remaining c.args.reader.now) (g.R.Read.remaining c.turns.reader) (g.R.Read.remaining c.fill.new.reader) (g.W.Write.contents c.args.writer.now) (g.W.Write.contents c.turns.writer)
    (desk_state (g.C.Clock.tells c.args.clock.now) (g.B.Book.state c.args.book.now))
    (desk_state (g.C.Clock.tells c.turns.clock) (g.B.Book.state c.turns.book))
    c.turns._turn (bytes_held c.turns.buffer) (bytes_held c.fill.new.self) more.0 c.turns.invariant more.1 more.2
    (g.W.Write.contents c.answer_held.new.writer)
    (desk_state (g.C.Clock.tells c.answer_held.new.clock) (g.B.Book.state c.answer_held.new.book))
    (bytes_held c.answer_held.new.buffer) some a.0 a.1

pub returns : goal.returns
returns g c =
    so_far_spent c.running_on.ensures (g.R.Read.remaining c.args.reader.now) (g.R.Read.remaining c.turns.reader) (g.W.Write.contents c.args.writer.now) (g.W.Write.contents c.turns.writer)
    (desk_state (g.C.Clock.tells c.args.clock.now) (g.B.Book.state c.args.book.now))
    (desk_state (g.C.Clock.tells c.turns.clock) (g.B.Book.state c.turns.book))
    c.turns._turn (bytes_held c.turns.buffer) c.turns.invariant (omega arith)
