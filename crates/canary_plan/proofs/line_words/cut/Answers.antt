use Rattle.canary_plan.proofs.LineLemmas.{is_cut}
use Rattle.canary_plan.proofs.line_words.cut.Goals as goal

pub returns : goal.returns
returns c = is_cut c.args.text.now c.split_once.result c.split_once.ensures.cases
