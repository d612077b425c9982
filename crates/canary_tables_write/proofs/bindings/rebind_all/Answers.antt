use Rattle.std.proofs.Common.{rules, arith}
use Rattle.sqlite.specs.Held.{state}
use Rattle.canary_tables_write.proofs.Binding.{one_rebound}
use Rattle.canary_tables_write.proofs.bindings.rebind_all.Goals as goal

pub loop-revision-preserved : goal.loop-revision-preserved
loop-revision-preserved g c = (
  search rules,
  one_rebound c.args.service.now 0 c.args.revisions.now c.loop-revision.revision-index c.revision-item.result (state g.S.Store c.args.tx.now.conn.now) (state g.S.Store c.loop-revision.tx.conn.now) (state g.S.Store c.rebind.new.tx.conn.now)
      (omega (arith, c.loop-revision-test.true)) c.revision-item.is c.loop-revision.invariant.1 c.in_ok-rebind.ensures.wrote c.in_ok-rebind.ensures.writes.live c.in_ok-rebind.ensures.writes.kept c.rebind.ensures.writes.survives,
)
