use Rattle.canary_once.specs.Showing.{lines_after}
use Rattle.canary_once.proofs.Histories.{lines_more}
use Rattle.canary_once.proofs.history.lines_after.Goals as goal

pub loop-effect-preserved : goal.loop-effect-preserved
loop-effect-preserved c =
    lines_more c.loop-effect.lines c.in_ok-lines.lines (lines_after c.args.history c.args.effects.now) c.args.effects.now c.loop-effect.effect-index c.effect-item.result c.loop-effect-test.true c.effect-item.is c.loop-effect.invariant c.in_ok-lines.ensures
