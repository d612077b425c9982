use Rattle.std.proofs.Common.{rules, arith}
use Rattle.sqlite.specs.Held.{state}
use Rattle.canary_tables_write.proofs.Happening.{nothing_yet, effect_more}
use Rattle.canary_tables_write.proofs.effects.apply_effects.Goals as goal

pub loop-effect-preserved : goal.loop-effect-preserved
loop-effect-preserved g c = (
  search rules,
  effect_more c.args.service.now c.args.effects.now c.loop-effect.effect-index c.effect-item.result (state g.S.Store c.args.tx.now.conn.now) (state g.S.Store c.loop-effect.tx.conn.now) (state g.S.Store c.apply_effect.new.tx.conn.now)
      (omega (arith, c.loop-effect-test.true)) c.effect-item.is c.loop-effect.invariant.1 c.in_ok-apply_effect.ensures.wrote c.in_ok-apply_effect.ensures.readable c.in_ok-apply_effect.ensures.writes.live c.in_ok-apply_effect.ensures.writes.kept c.apply_effect.ensures.writes.survives,
)
