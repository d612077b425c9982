use Rattle.canary_wire.specs.Buffers.{bytes_held}
use Rattle.canary_wire.specs.Unsent.{bytes_unsent}
use Rattle.canary_wire.proofs.OrderLemmas.{sends_some}
use Rattle.canary_wire.proofs.conversation.Conversation.write_unsent.Goals as goal

pub returns-in-Err-clause-sends : goal.returns-in-Err-clause-sends
returns-in-Err-clause-sends g c =
    sends_some (g.W.Write.contents c.args.writer.now) (g.W.Write.contents c.write_to.new.writer) (bytes_held c.args.self.now.buffer) (bytes_unsent c.args.self.now.unsent) (bytes_unsent c.write_to.new.self) c.args.self.now.stage c.write_to.ensures.sent

pub returns-then-unsent_bytes-gt0-clause-sends : goal.returns-then-unsent_bytes-gt0-clause-sends
returns-then-unsent_bytes-gt0-clause-sends g c =
    sends_some (g.W.Write.contents c.args.writer.now) (g.W.Write.contents c.write_to.new.writer) (bytes_held c.args.self.now.buffer) (bytes_unsent c.args.self.now.unsent) (bytes_unsent c.write_to.new.self) c.args.self.now.stage c.write_to.ensures.sent

pub returns-clause-sends : goal.returns-clause-sends
returns-clause-sends g c =
    sends_some (g.W.Write.contents c.args.writer.now) (g.W.Write.contents c.write_to.new.writer) (bytes_held c.args.self.now.buffer) (bytes_unsent c.args.self.now.unsent) (bytes_unsent c.write_to.new.self) c.args.self.now.stage c.write_to.ensures.sent
