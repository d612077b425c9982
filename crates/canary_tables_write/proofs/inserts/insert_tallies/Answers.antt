use Rattle.std.proofs.Common.{rules}
use Rattle.sqlite.specs.Held.{state}
use Rattle.canary_tables_write.proofs.TalliesInserted.{tally_more}
use Rattle.canary_tables_write.proofs.inserts.insert_tallies.Goals as goal

pub loop-metric-preserved : goal.loop-metric-preserved
loop-metric-preserved g c = (
  search rules,
  tally_more c.args.service.now c.args.run c.loop-metric.metric (state g.S.Store c.args.tx.now.conn.now) (state g.S.Store c.loop-metric.tx.conn.now) (state g.S.Store c.insert_tally.new.tx.conn.now)
      c.loop-metric.invariant.1 c.in_ok-insert_tally.ensures.wrote c.in_ok-insert_tally.ensures.writes.live c.in_ok-insert_tally.ensures.writes.kept c.insert_tally.ensures.writes.survives,
)
