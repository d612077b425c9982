use Rattle.std.proofs.Common.{◌≤◌, ◌++◌, length, take, drop, refl}
use Rattle.std.proofs.lemmas.List.{length-take-le}
use Rattle.canary_wire.proofs.ReadLemmas.{consumes_kept}
use Rattle.canary_wire.proofs.BufferLemmas.{split_written}
use Rattle.canary_wire.proofs.buffer.read_at.Goals as goal

pub returns-in-Ok-clause-more : goal.returns-in-Ok-clause-more
returns-in-Ok-clause-more g c =
    let n : c.in-Ok.n ≤ length c.read.new.buf = c.in-Ok.ensures.bound.0 in (
      take c.in-Ok.n c.read.new.buf,
      drop c.in-Ok.n c.read.new.buf ++ _,
      split_written (take c.args.at c.args.bytes.now) c.read.new.buf _ c.in-Ok.n,
      c.in-Ok.ensures.bytes.0,
      length-take-le c.in-Ok.n c.read.new.buf n,
    )

pub returns-in-Err-clause-err : goal.returns-in-Err-clause-err
returns-in-Err-clause-err g c = (_, refl, consumes_kept (g.R.Read.remaining c.args.reader.now) (g.R.Read.remaining c.read.new.self) c.in-Err.ensures.bytes)
