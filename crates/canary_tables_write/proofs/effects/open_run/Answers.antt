use Rattle.std.proofs.Common.{rules, subst, ◌∙◌}
use Rattle.sqlite.specs.Held.{state}
use Rattle.canary_plan.specs.Plans.{distinct}
use Rattle.canary_tables_contents.specs.Settling.{all_bound}
use Rattle.canary_tables_schema.specs.Stores.{Wrote}
use Rattle.canary_tables_write.specs.Commits.{run_added}
use Rattle.canary_tables_write.proofs.Happening.{both}
use Rattle.canary_tables_write.proofs.effects.open_run.Goals as goal

pub returns-clause-wrote : goal.returns-clause-wrote
returns-clause-wrote g c =
    let x = c.args.opening.now in
    both (run_added c.args.service.now x) (all_bound c.args.service.now x.run (distinct x.analysis.revisions)) (state g.S.Store c.args.tx.now.conn.now) (state g.S.Store c.add_run.new.tx.conn.now) (state g.S.Store c.bind_all.new.tx.conn.now) c.add_run.result c.bind_all.result
    c.in_ok-add_run.field-0 c.in_ok-bind_all.field-0 c.add_run.ensures.wrote
    (subst (λ rs. Wrote (all_bound c.args.service.now x.run rs) (state g.S.Store c.add_run.new.tx.conn.now) (state g.S.Store c.bind_all.new.tx.conn.now) c.bind_all.result) (c.as_slice.ensures ∙ c.in_ok-revisions.ensures) c.bind_all.ensures.wrote)
    c.bind_all.ensures.writes.survives (search rules) (search rules)
