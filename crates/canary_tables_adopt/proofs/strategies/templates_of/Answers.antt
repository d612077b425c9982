use Rattle.std.proofs.Common.{◌≡◌, Err, arith, rules, sym, ◌∙◌}
use Rattle.canary_tables_read.specs.declared.fault.ReadFault.TheVariants.{Broken}
use Rattle.canary_tables_adopt.proofs.Standing.{stores_then, goes_first, goes_more}
use Rattle.canary_tables_adopt.proofs.JudgedStrategies.{none_so_far, template_more, no_template_more, templates_done}
use Rattle.canary_tables_adopt.proofs.strategies.templates_of.Goals as goal
use Rattle.canary_tables_adopt.proofs.strategies.templates_of.Goals.{in-Some+in_ok-insert, in_default}

pub loop-name-init : goal.loop-name-init
loop-name-init g c = (goes_first g.Q.Reader.IsReady g.Q.Reader.place g.Q.Reader.below c.args.conn.now c.requires.ready, none_so_far c.args.names.now (g.Q.Reader.shows c.args.conn.now) c.new-found.result c.new-found.ensures)

pub loop-name-preserved : goal.loop-name-preserved
loop-name-preserved g c = elim c.match-branch-2.branch [
  | in-Some+in_ok-insert w ↦ (
    goes_more g.Q.Reader.IsReady g.Q.Reader.place g.Q.Reader.below _ _ _ c.loop-name.invariant.0 c.template.ensures.reads.mode c.template.ensures.reads.place c.template.ensures.reads.kept,
    template_more c.args.names.now c.loop-name.name-index (g.Q.Reader.shows c.args.conn.now) (g.Q.Reader.shows c.loop-name.conn) (g.Q.Reader.shows c.template.new.conn) c.loop-name.found c.match-branch-2.found c.name-item.result w.in-Some.template (omega arith) c.name-item.is c.loop-name.invariant.1 c.template.ensures.reads.same
        (λ usable t has judged. sym w.in-Some.is ∙ c.in_ok-template.ensures.found usable t has judged) (w.found-is ∙ w.in_ok-insert.ensures.ok),
  )
  | in_default w ↦ (
    goes_more g.Q.Reader.IsReady g.Q.Reader.place g.Q.Reader.below _ _ _ c.loop-name.invariant.0 c.template.ensures.reads.mode c.template.ensures.reads.place c.template.ensures.reads.kept,
    no_template_more c.args.names.now c.loop-name.name-index (g.Q.Reader.shows c.args.conn.now) (g.Q.Reader.shows c.loop-name.conn) (g.Q.Reader.shows c.template.new.conn) c.loop-name.found c.match-branch-2.found c.name-item.result (omega arith) c.name-item.is c.loop-name.invariant.1 c.template.ensures.reads.same
        (λ usable t has judged. sym w.in_default.is ∙ c.in_ok-template.ensures.found usable t has judged) w.found-is,
  )
]

pub returns-in_err-template-clause-broken : goal.returns-in_err-template-clause-broken
returns-in_err-template-clause-broken g c usable t has judged is =
    let broken : c.template.result ≡ Err Broken = search rules in
    let mid = (c.template.ensures.reads.same usable).0 in
    c.template.ensures.broken usable t (stores_then (g.Q.Reader.shows c.args.conn.now) (g.Q.Reader.shows c.loop-name.conn) t c.loop-name.invariant.1.same mid has) judged broken

pub returns-clause-found : goal.returns-clause-found
returns-clause-found g c usable t has judged =
    templates_done c.args.names.now c.loop-name.name-index (g.Q.Reader.shows c.args.conn.now) (g.Q.Reader.shows c.loop-name.conn) c.loop-name.found c.loop-name.invariant.1 (omega arith) usable t has judged
