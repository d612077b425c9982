use Rattle.std.specs.FinMap.{get}
use Rattle.std.specs.Option.{option_copied}
use Rattle.std.proofs.lemmas.Result.{IfOk-weaker}
use Rattle.canary_release.proofs.Steps.{told_rule}
use Rattle.canary_release.proofs.decide.decide.Goals as goal

pub returns : goal.returns
returns c = IfOk-weaker c.rule.result _ _ (λ d e desk agree there. told_rule c.watching.ensures desk (get c.args.templates.now) (option_copied c.args.service) c.args.now c.args.command.now d e agree there) c.rule.ensures
