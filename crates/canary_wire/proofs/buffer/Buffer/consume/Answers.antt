use Rattle.canary_wire.proofs.BufferLemmas.{slice_drop}
use Rattle.canary_wire.proofs.buffer.Buffer.consume.Goals as goal

pub returns : goal.returns
returns c = slice_drop c.args.self.now.bytes.items c.args.self.now.start c.args.self.now.end c.args.count c.requires
