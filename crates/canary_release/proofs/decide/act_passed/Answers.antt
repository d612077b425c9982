use Rattle.std.specs.FinMap.{get}
use Rattle.canary_release.proofs.Ruled.{acting_keeps_all}
use Rattle.canary_release.proofs.decide.act_passed.Goals as goal

pub returns-clause-unbroken : goal.returns-clause-unbroken
returns-clause-unbroken c =
    acting_keeps_all c.parts.ensures.acting (get c.args.templates.now) c.args.command.now c.args.service.now c.args.now c.act_within.result c.recall_checked_strategy.ensures.accepted c.recall_checked_strategy.ensures.fit c.recall_checked_strategy.ensures.unbroken c.act_within.ensures.acted c.act_within.ensures.fit
