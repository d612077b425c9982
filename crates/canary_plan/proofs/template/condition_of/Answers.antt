use Rattle.std.proofs.Common.{rules, sym}
use Rattle.canary_plan.proofs.Unreadable.{unreadable}
use Rattle.canary_plan.proofs.template.condition_of.Goals as goal

pub returns-in-Ok : goal.returns-in-Ok
returns-in-Ok c = sym ((c.conditions.ensures c.args.text.now c.in-Ok.condition).0 c.in-Ok.ensures.reads)

pub returns-else-eq : goal.returns-else-eq
returns-else-eq c = sym (unreadable c.args.text.now c.in-Err.fault c.conditions.ensures c.in-Err.ensures.reads (λ e. search rules))
