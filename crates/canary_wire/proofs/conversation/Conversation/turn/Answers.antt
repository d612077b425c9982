use Rattle.std.proofs.Common.{refl, sym, ◌∙◌}
use Rattle.canary_wire.specs.Talks.{talk_of}
use Rattle.canary_once.specs.Messages.{desk_state}
use Rattle.canary_wire.proofs.TurnLemmas.{turn_sent, turn_first, turn_read, turn_whole}
use Rattle.canary_wire.proofs.conversation.Conversation.turn.Goals as goal

pub returns-in-Some-clause-turn : goal.returns-in-Some-clause-turn
returns-in-Some-clause-turn g c =
    turn_sent (g.R.Read.remaining c.args.reader.now) (g.W.Write.contents c.args.writer.now) (g.W.Write.contents c.write_unsent.new.writer)
    (desk_state (g.C.Clock.tells c.args.clock.now) (g.B.Book.state c.args.book.now)) (talk_of c.args.self.now) (talk_of c.write_unsent.new.self) c.write_unsent.ensures.sends

pub returns-in-Some-clause-awaits : goal.returns-in-Some-clause-awaits
returns-in-Some-clause-awaits g c = c.in-Some.ensures.awaits (g.R.Read.remaining c.args.reader.now)

pub returns-in-Some-reply-clause-turn : goal.returns-in-Some-reply-clause-turn
returns-in-Some-reply-clause-turn g c =
    turn_first (g.R.Read.remaining c.args.reader.now) (g.R.Read.remaining c.args.reader.now) (g.W.Write.contents c.args.writer.now) (g.W.Write.contents c.write_unsent.new.writer) (g.W.Write.contents c.reply.new.writer)
    (desk_state (g.C.Clock.tells c.args.clock.now) (g.B.Book.state c.args.book.now)) (desk_state (g.C.Clock.tells c.reply.new.clock) (g.B.Book.state c.reply.new.book))
    (talk_of c.args.self.now) (talk_of c.write_unsent.new.self) (talk_of c.reply.new.self) (talk_of c.reply.new.self) c.write_unsent.ensures.sends c.reply.ensures.replies

pub returns-in-Some-reply-clause-awaits : goal.returns-in-Some-reply-clause-awaits
returns-in-Some-reply-clause-awaits g c = c.in-Some-reply.ensures.awaits (g.R.Read.remaining c.args.reader.now)

pub read_more-requires : goal.read_more-requires
read_more-requires g c = c.reply.ensures.listens c.in_default-reply.is

pub returns-in-Some-read_more-clause-turn : goal.returns-in-Some-read_more-clause-turn
returns-in-Some-read_more-clause-turn g c =
    turn_read (g.R.Read.remaining c.args.reader.now) (g.R.Read.remaining c.read_more.new.reader) (g.W.Write.contents c.args.writer.now) (g.W.Write.contents c.write_unsent.new.writer) (g.W.Write.contents c.reply.new.writer)
    (desk_state (g.C.Clock.tells c.args.clock.now) (g.B.Book.state c.args.book.now)) (desk_state (g.C.Clock.tells c.reply.new.clock) (g.B.Book.state c.reply.new.book))
    (talk_of c.args.self.now) (talk_of c.write_unsent.new.self) (talk_of c.reply.new.self) (talk_of c.read_more.new.self) c.write_unsent.ensures.sends c.reply.ensures.replies c.read_more.ensures.receives

pub returns-in-Some-reply-2-clause-turn : goal.returns-in-Some-reply-2-clause-turn
returns-in-Some-reply-2-clause-turn g c =
    turn_whole (g.R.Read.remaining c.args.reader.now) (g.R.Read.remaining c.read_more.new.reader) (g.W.Write.contents c.args.writer.now) (g.W.Write.contents c.write_unsent.new.writer) (g.W.Write.contents c.reply.new.writer)
    (desk_state (g.C.Clock.tells c.args.clock.now) (g.B.Book.state c.args.book.now)) (desk_state (g.C.Clock.tells c.reply.new.clock) (g.B.Book.state c.reply.new.book))
    (talk_of c.args.self.now) (talk_of c.write_unsent.new.self) (talk_of c.reply.new.self) (talk_of c.read_more.new.self) c.write_unsent.ensures.sends c.reply.ensures.replies
    (g.W.Write.contents c.reply-2.new.writer) (desk_state (g.C.Clock.tells c.reply-2.new.clock) (g.B.Book.state c.reply-2.new.book)) (talk_of c.reply-2.new.self) c.read_more.ensures.receives c.reply-2.ensures.replies

pub returns-in-Some-reply-2-clause-awaits : goal.returns-in-Some-reply-2-clause-awaits
returns-in-Some-reply-2-clause-awaits g c = c.in-Some-reply-2.ensures.awaits (g.R.Read.remaining c.read_more.new.reader)

pub returns-clause-turn : goal.returns-clause-turn
returns-clause-turn g c =
    turn_whole (g.R.Read.remaining c.args.reader.now) (g.R.Read.remaining c.read_more.new.reader) (g.W.Write.contents c.args.writer.now) (g.W.Write.contents c.write_unsent.new.writer) (g.W.Write.contents c.reply.new.writer)
    (desk_state (g.C.Clock.tells c.args.clock.now) (g.B.Book.state c.args.book.now)) (desk_state (g.C.Clock.tells c.reply.new.clock) (g.B.Book.state c.reply.new.book))
    (talk_of c.args.self.now) (talk_of c.write_unsent.new.self) (talk_of c.reply.new.self) (talk_of c.read_more.new.self) c.write_unsent.ensures.sends c.reply.ensures.replies
    (g.W.Write.contents c.reply-2.new.writer) (desk_state (g.C.Clock.tells c.reply-2.new.clock) (g.B.Book.state c.reply-2.new.book)) (talk_of c.reply-2.new.self) c.read_more.ensures.receives c.reply-2.ensures.replies

pub returns-clause-awaits : goal.returns-clause-awaits
returns-clause-awaits g c = c.reply-2.ensures.listens c.in_default-reply-2.is

pub returns-in-Some-reply-clause-rest : goal.returns-in-Some-reply-clause-rest
returns-in-Some-reply-clause-rest g c over =
    let rest = c.reply.ensures.rest (λ is. over (sym c.write_unsent.ensures.sends.same.1 ∙ is)) in
    (refl, rest.1, rest.2)

pub returns-in-Some-read_more-clause-rest : goal.returns-in-Some-read_more-clause-rest
returns-in-Some-read_more-clause-rest g c over =
    absurd ((c.reply.ensures.rest (λ is. over (sym c.write_unsent.ensures.sends.same.1 ∙ is))).0 c.in_default-reply.is)

pub returns-in-Some-reply-2-clause-rest : goal.returns-in-Some-reply-2-clause-rest
returns-in-Some-reply-2-clause-rest g c over =
    absurd ((c.reply.ensures.rest (λ is. over (sym c.write_unsent.ensures.sends.same.1 ∙ is))).0 c.in_default-reply.is)

pub returns-clause-rest : goal.returns-clause-rest
returns-clause-rest g c over =
    absurd ((c.reply.ensures.rest (λ is. over (sym c.write_unsent.ensures.sends.same.1 ∙ is))).0 c.in_default-reply.is)
