use Rattle.std.proofs.Common.{arith, rules}
use Rattle.std.proofs.lemmas.Str.Pattern.{strip_prefix_char}
use Rattle.canary_condition.proofs.outcome.failure_part.Goals as goal

pub returns : goal.returns
returns c = strip_prefix_char 33 c.args.text.now c.strip_prefix.result (search rules) (omega arith)
