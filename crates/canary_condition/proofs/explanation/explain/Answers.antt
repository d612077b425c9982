use Rattle.std.proofs.Common.{arith, ap, ◌∙◌}
use Rattle.canary_condition.specs.Following.{start, explain_after}
use Rattle.canary_condition.proofs.Explains.{explains}
use Rattle.canary_condition.proofs.explanation.explain.Goals as goal

pub returns : goal.returns
returns c = explains c.args.text.now c.explain_bytes.result (omega arith) (c.explain_bytes.ensures ∙ ap (explain_after start 0 0) c.as_bytes.ensures.value)
