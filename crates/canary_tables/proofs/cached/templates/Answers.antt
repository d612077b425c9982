use Rattle.std.proofs.Common.{arith, Some, None, sym, ◌∙◌}
use Rattle.sqlite.specs.Held.{state}
use Rattle.canary_tables.proofs.FoundPlans.{none_so_far, one_more, templates_done}
use Rattle.canary_tables.proofs.cached.templates.Goals as goal
use Rattle.canary_tables.proofs.cached.templates.Goals.{in-Some+in_ok-insert, in_default}

pub loop-name-init : goal.loop-name-init
loop-name-init g c = (c.requires.ready.autocommit, none_so_far c.args.names.now (state g.S.Store c.args.conn.now) c.new-found.result c.new-found.ensures, c.requires.kept)

pub loop-name-preserved : goal.loop-name-preserved
loop-name-preserved g c = elim c.match-branch-2.branch [
  | in-Some+in_ok-insert w ↦ (
    c.template.ensures.reads.mode,
    one_more c.args.names.now c.loop-name.name-index (state g.S.Store c.args.conn.now) (state g.S.Store c.loop-name.conn) (state g.S.Store c.template.new.conn) c.loop-name.found c.match-branch-2.found c.name-item.result (Some w.in-Some.template) (omega arith) c.name-item.is c.loop-name.invariant.1 c.template.ensures.reads.same
        (λ usable. sym w.in-Some.is ∙ c.in_ok-template.ensures.found usable) (w.found-is ∙ w.in_ok-insert.ensures.ok),
    c.template.ensures.kept,
  )
  | in_default w ↦ (
    c.template.ensures.reads.mode,
    one_more c.args.names.now c.loop-name.name-index (state g.S.Store c.args.conn.now) (state g.S.Store c.loop-name.conn) (state g.S.Store c.template.new.conn) c.loop-name.found c.match-branch-2.found c.name-item.result None (omega arith) c.name-item.is c.loop-name.invariant.1 c.template.ensures.reads.same
        (λ usable. sym w.in_default.is ∙ c.in_ok-template.ensures.found usable) w.found-is,
    c.template.ensures.kept,
  )
]

pub returns-clause-found : goal.returns-clause-found
returns-clause-found g c = templates_done c.args.names.now c.loop-name.name-index (state g.S.Store c.args.conn.now) (state g.S.Store c.loop-name.conn) c.loop-name.found c.loop-name.invariant.1 c.loop-name-test.false
