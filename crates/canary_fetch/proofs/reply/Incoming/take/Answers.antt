use Rattle.std.proofs.Common.{◌++◌, sym, subst}
use Rattle.canary_fetch.specs.Replies.{Heard}
use Rattle.canary_fetch.specs.Reading.{BeginsWith}
use Rattle.canary_fetch.proofs.reply.Incoming.take.Goals as goal

pub returns-in-Ok-Waits-clause-ok : goal.returns-in-Ok-Waits-clause-ok
returns-in-Ok-Waits-clause-ok c came s =
    rw c.in-Ok-Waits.field-0-is at (c.in-Ok-Waits.ensures.ok (came ++ c.args.bytes.now) (c.steps.invariant came s))

pub returns-in-Ok-Ends-clause-ok : goal.returns-in-Ok-Ends-clause-ok
returns-in-Ok-Ends-clause-ok c came s =
    let begins = rw c.in-Ok-Ends.field-0-is at (c.in-Ok-Ends.ensures.ok (came ++ c.args.bytes.now) (c.steps.invariant came s)) in
    subst (λ (x : Heard). BeginsWith (came ++ c.args.bytes.now) x) (sym c.reply.ensures) begins

pub returns-in-Err-step-clause-err : goal.returns-in-Err-step-clause-err
returns-in-Err-step-clause-err c came s = c.in-Err-step.ensures.err (came ++ c.args.bytes.now) (c.steps.invariant came s)

pub steps-preserved : goal.steps-preserved
steps-preserved c came s =
    rw c.in-Ok-Goes.field-0-is at (c.in-Ok-Goes.ensures.ok (came ++ c.args.bytes.now) (c.steps.invariant came s))
