use Rattle.std.proofs.Common.{sym, ap, ◌∙◌, subst}
use Rattle.std.specs.Prelude.{Ok}
use Rattle.canary_wire.specs.declared.conversation.Cause.{Cause}
use Rattle.canary_wire.specs.Buffers.{bytes_held}
use Rattle.canary_wire.specs.Unsent.{bytes_unsent}
use Rattle.canary_wire.specs.Conversing.{talk, end_cause, IsCause}
use Rattle.canary_wire.proofs.OrderLemmas.{receives_more}
use Rattle.canary_wire.proofs.TurnLemmas.{ends_by}
use Rattle.canary_wire.proofs.conversation.Conversation.read_more.Goals as goal

pub returns-in-Ok-eq0-clause-awaits : goal.returns-in-Ok-eq0-clause-awaits
returns-in-Ok-eq0-clause-awaits g c =
    let more = rw c.in-Ok-eq0.is at c.fill.ensures.more in
    let r = g.R.Read.remaining c.fill.new.reader in
    let held = bytes_held c.args.self.now.buffer in
    let new = bytes_held c.fill.new.self in
    let unsent = bytes_unsent c.args.self.now.unsent in
    let stage = c.args.self.now.stage in
    let P : Cause → Type 0 = λ k. IsCause r (talk new unsent stage) k in
    let none = c.in-Ok-eq0.field-0-test in
    let ends = ends_by r held new more.0 unsent stage c.requires more.1 (more.3 ∙ none) (c.fill.ensures.end (c.in-Ok-eq0.is ∙ ap Ok none)) in
    subst P (sym (c.end_cause.ensures ∙ ap end_cause c.as_slice.ensures)) ends

pub returns-in-Ok-clause-receives : goal.returns-in-Ok-clause-receives
returns-in-Ok-clause-receives g c =
    let more = rw c.in-Ok.is at c.fill.ensures.more in
    receives_more (g.R.Read.remaining c.args.reader.now) (g.R.Read.remaining c.fill.new.reader) (bytes_held c.args.self.now.buffer) (bytes_held c.fill.new.self) (bytes_unsent c.args.self.now.unsent) more.0
    c.args.self.now.stage c.requires.0 more.1 more.2
