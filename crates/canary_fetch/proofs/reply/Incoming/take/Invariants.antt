use Rattle.std.proofs.Common.{ℕ, List, ◌++◌}
use Rattle.canary_fetch.specs.Reading.{IsReading}
use Rattle.canary_fetch.proofs.reply.Incoming.take.Given as goal

abbrev pub invariant-steps : goal.invariant-steps
invariant-steps l = (came : List ℕ) → IsReading came l.fn.self → IsReading (came ++ l.bytes) l.self
