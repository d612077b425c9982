use Rattle.std.proofs.Common.{ap}
use Rattle.std.specs.Prelude.{Err}
use Rattle.canary_wire.proofs.CutLemmas.{rejected_by_error, rejected_long}
use Rattle.canary_wire.proofs.cut.first_message.Goals as goal

pub returns-in-Ok-Partial-2 : goal.returns-in-Ok-Partial-2
returns-in-Ok-Partial-2 c = rejected_long c.args.bytes.now (rw c.in-Ok-Partial.field-0-is at c.in-Ok-Partial.ensures.partial) c.if-bytes-lt-MAX_HEAD.false

pub returns-in-Err : goal.returns-in-Err
returns-in-Err c = rejected_by_error c.args.bytes.now c.in-Err.field-0 c.in-Err.ensures.no_room c.in-Err.ensures.invalid (λ q. c.in-Err.ensures.too_many (ap Err q))
