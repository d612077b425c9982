use Rattle.std.proofs.Common.{◌≡◌, Err, None, Some, arith, rules, sym, subst, ◌∙◌}
use Rattle.std.specs.FinMap.{get}
use Rattle.canary_tables_read.specs.declared.fault.ReadFault.TheVariants.{Broken}
use Rattle.canary_tables_adopt.specs.Bindings.{IsTemplateOf}
use Rattle.canary_tables_adopt.proofs.Standing.{stores_then, goes_first, goes_more}
use Rattle.canary_tables_adopt.proofs.KnownBindings.{known_at_first, known_new, known_old, known_done, row_unbound, copied_none, copied_some}
use Rattle.canary_tables_adopt.proofs.bindings.known_by.Goals as goal
use Rattle.canary_tables_adopt.proofs.bindings.known_by.Goals.{then-is_none+in_ok-template+in-Some+in_ok-insert, else-is_none}

pub loop-row-init : goal.loop-row-init
loop-row-init g c = (goes_first g.Q.Reader.IsReady g.Q.Reader.place g.Q.Reader.below c.args.conn.now c.requires.ready, known_at_first c.args.rows.now (g.Q.Reader.shows c.args.conn.now) c.new-known.result c.new-known.ensures)

pub returns-in_err-template-clause-broken : goal.returns-in_err-template-clause-broken
returns-in_err-template-clause-broken g c usable t has is within =
    let broken : c.template_of.result ≡ Err Broken = search rules in
    let mid = (c.template_of.ensures.reads.same usable).0 in
    c.template_of.ensures.broken usable t (stores_then (g.Q.Reader.shows c.args.conn.now) (g.Q.Reader.shows c.loop-row.conn) t c.loop-row.invariant.1.same mid has) broken within

pub returns-in_default-clause-found : goal.returns-in_default-clause-found
returns-in_default-clause-found g c usable t has =
    let none : c.in_ok-template.field-0 ≡ None = search rules in
    row_unbound c.args.rows.now c.loop-row.row-index c.row-item.result (g.Q.Reader.shows c.args.conn.now) (g.Q.Reader.shows c.loop-row.conn) (g.Q.Reader.shows c.template_of.new.conn) (omega arith) c.row-item.is c.loop-row.invariant.1.same c.template_of.ensures.reads.same usable
    (λ t has. subst (IsTemplateOf c.row-item.result t) none (c.in_ok-template.ensures.found usable t has)) t has

pub loop-row-preserved : goal.loop-row-preserved
loop-row-preserved g c = elim c.if-is_none.branch [
  | then-is_none+in_ok-template+in-Some+in_ok-insert w ↦
      (let fresh : get c.loop-row.known c.row-item.result.template ≡ None = copied_none c.get.result (get c.loop-row.known c.row-item.result.template) c.get.ensures (search rules) in
      let so_far = known_new c.args.rows.now c.loop-row.row-index c.row-item.result (g.Q.Reader.shows c.args.conn.now) (g.Q.Reader.shows c.loop-row.conn) (g.Q.Reader.shows w.template_of.new.conn) c.loop-row.known c.if-is_none.known w.in-Some.template (omega arith) c.row-item.is c.loop-row.invariant.1 w.template_of.ensures.reads.same fresh
      (λ usable t has. subst (IsTemplateOf c.row-item.result t) w.in-Some.is (w.in_ok-template.ensures.found usable t has)) (w.known-is ∙ w.in_ok-insert.ensures.ok) in
      (rw (w.conn-is) (goes_more g.Q.Reader.IsReady g.Q.Reader.place g.Q.Reader.below _ _ _ c.loop-row.invariant.0 w.template_of.ensures.reads.mode w.template_of.ensures.reads.place w.template_of.ensures.reads.kept), rw (w.conn-is) so_far))
  | else-is_none w ↦
      (let there = copied_some c.get.result (get c.loop-row.known c.row-item.result.template) c.get.ensures w.if-is_none.ensures in
      let so_far = known_old c.args.rows.now c.loop-row.row-index c.row-item.result (g.Q.Reader.shows c.args.conn.now) (g.Q.Reader.shows c.loop-row.conn) c.loop-row.known c.if-is_none.known there.0 (omega arith) c.row-item.is c.loop-row.invariant.1 there.1 w.known-is in
      (rw (w.conn-is) c.loop-row.invariant.0, rw (w.conn-is) so_far))
]

pub returns-clause-found : goal.returns-clause-found
returns-clause-found g c usable t has =
    known_done c.args.rows.now c.loop-row.row-index (g.Q.Reader.shows c.args.conn.now) (g.Q.Reader.shows c.loop-row.conn) c.loop-row.known c.loop-row.invariant.1 (omega arith) usable t has
