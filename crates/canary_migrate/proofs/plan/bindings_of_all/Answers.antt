use Rattle.std.proofs.Common.{◌≡◌, ◌++◌, Err, ap, rules, arith, ◌∙◌}
use Rattle.canary_tables_rows.specs.Tables.{Tables}
use Rattle.canary_tables_read.specs.declared.fault.ReadFault.TheVariants.{Broken}
use Rattle.canary_migrate.specs.Migrated.{bindings_named}
use Rattle.canary_migrate.proofs.Each.{none_yet, one_more, all_found}
use Rattle.canary_migrate.proofs.Standing.{stores_then, goes_first, goes_more}
use Rattle.canary_migrate.proofs.plan.bindings_of_all.Goals as goal

pub loop-name-init : goal.loop-name-init
loop-name-init g c = (goes_first g.Q.Reader.IsReady g.Q.Reader.place g.Q.Reader.below c.args.conn.now c.requires.ready, none_yet (λ (t : Tables). bindings_named t.services t.runs) c.args.names.now (g.Q.Reader.shows c.args.conn.now) c.of-found.result (c.of-found.ensures ∙ c.new.ensures.items))

pub loop-name-preserved : goal.loop-name-preserved
loop-name-preserved g c = (
  goes_more g.Q.Reader.IsReady g.Q.Reader.place g.Q.Reader.below _ _ _ c.loop-name.invariant.0 c.bindings_of.ensures.reads.mode c.bindings_of.ensures.reads.place c.bindings_of.ensures.reads.kept,
  one_more (λ (t : Tables). bindings_named t.services t.runs) c.args.names.now c.loop-name.name-index c.name-item.result (g.Q.Reader.shows c.args.conn.now) (g.Q.Reader.shows c.loop-name.conn) (g.Q.Reader.shows c.bindings_of.new.conn) c.loop-name.found _ _
      (omega (arith, c.loop-name-test.true)) c.name-item.is c.loop-name.invariant.1 c.bindings_of.ensures.reads.same c.in_ok-more.ensures.found (c.in_ok-found.ensures ∙ ap (λ ys. c.loop-name.found ++ ys) c.as_slice.ensures),
)

pub returns-in_err-more-clause-broken : goal.returns-in_err-more-clause-broken
returns-in_err-more-clause-broken g c usable t has is within =
    let broken : c.bindings_of.result ≡ Err Broken = search rules in
    c.bindings_of.ensures.broken usable t (stores_then (g.Q.Reader.shows c.args.conn.now) (g.Q.Reader.shows c.loop-name.conn) t c.loop-name.invariant.1.same (c.bindings_of.ensures.reads.same usable).0 has) broken within

pub returns-clause-found : goal.returns-clause-found
returns-clause-found g c usable t has =
    all_found (λ (t : Tables). bindings_named t.services t.runs) c.args.names.now c.loop-name.name-index (g.Q.Reader.shows c.args.conn.now) (g.Q.Reader.shows c.loop-name.conn) c.loop-name.found c.loop-name-test.false c.loop-name.invariant.1 usable t has
