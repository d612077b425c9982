use Rattle.std.proofs.Common.{arith}
use Rattle.std.proofs.lemmas.Str.Pattern.{strip_suffix_char}
use Rattle.canary_plan.proofs.LineLemmas.{is_before_s}
use Rattle.canary_plan.proofs.line_words.before_s.Goals as goal

pub returns : goal.returns
returns c =
    is_before_s c.args.text.now c.strip_suffix.result (strip_suffix_char 115 c.args.text.now c.strip_suffix.result c.strip_suffix.ensures.cases (omega arith))
