use Rattle.std.proofs.Common.{arith, rules, refl, ◌∙◌}
use Rattle.sqlite.specs.Held.{state}
use Rattle.canary_tables.proofs.FoundRuns.{run_more, runs_done}
use Rattle.canary_tables.proofs.load_runs.with_tallies.Goals as goal

pub loop-row-init : goal.loop-row-init
loop-row-init g c = (c.requires.ready.autocommit, record { same = λ usable. (usable, refl); value = λ usable. c.of-found.ensures ∙ c.new.ensures.items })

pub loop-row-preserved : goal.loop-row-preserved
loop-row-preserved g c = (
  search rules,
  run_more c.args.bound.now c.args.name.now c.args.rows.now c.loop-row.row-index (state g.S.Store c.args.conn.now) (state g.S.Store c.loop-row.conn) (state g.S.Store c.open_run.new.conn) c.loop-row.found _ c.row-item.result c.in_ok-open_run.field-0 (omega arith) c.row-item.is c.loop-row.invariant.1 c.open_run.ensures.reads.same c.in_ok-open_run.ensures.found c.in_ok-push.ensures.ok,
)

pub returns-clause-found : goal.returns-clause-found
returns-clause-found g c = runs_done c.args.bound.now c.args.name.now c.args.rows.now c.loop-row.row-index (state g.S.Store c.args.conn.now) (state g.S.Store c.loop-row.conn) c.loop-row.found c.loop-row.invariant.1 c.loop-row-test.false
