use Rattle.canary_once.specs.Showing.{record_after}
use Rattle.canary_once.proofs.ViewsAfter.{record_more}
use Rattle.canary_once.proofs.view_past.record_after.Goals as goal

pub loop-effect-preserved : goal.loop-effect-preserved
loop-effect-preserved c =
    record_more c.args.number c.loop-effect.record c.in_ok-record.record (record_after c.args.number c.args.found c.args.effects.now) c.args.effects.now c.loop-effect.effect-index c.effect-item.result c.loop-effect-test.true c.effect-item.is c.loop-effect.invariant c.in_ok-record.ensures
