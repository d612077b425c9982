use Rattle.std.proofs.Common.{rules, length, None, subst}
use Rattle.sqlite.specs.Held.{state}
use Rattle.canary_tables_rows.specs.Changes.{with_run, tallies_opened}
use Rattle.canary_tables_schema.specs.Stores.{Wrote}
use Rattle.canary_tables_write.proofs.Happening.{both}
use Rattle.canary_tables_write.proofs.effects.add_run.Goals as goal

pub returns-clause-wrote : goal.returns-clause-wrote
returns-clause-wrote g c =
    let x = c.args.opening.now in
    both (with_run (record { service = c.args.service.now; number = x.run; step = x.step; started = x.started; ending = record { closed = None; outside = 0; verdict = 0 } })) (tallies_opened c.args.service.now x.run 0 (length x.analysis.metrics))
    (state g.S.Store c.args.tx.now.conn.now) (state g.S.Store c.insert_run.new.tx.conn.now) (state g.S.Store c.insert_tallies.new.tx.conn.now) c.insert_run.result c.insert_tallies.result c.in_ok-map_err.field-0 tt
    c.insert_run.ensures.wrote (subst (λ n. Wrote (tallies_opened c.args.service.now x.run 0 n) (state g.S.Store c.insert_run.new.tx.conn.now) (state g.S.Store c.insert_tallies.new.tx.conn.now) c.insert_tallies.result) c.metric_count.ensures c.insert_tallies.ensures.wrote)
    c.insert_tallies.ensures.writes.survives (search rules) (search rules)
